-- What demand 3 tells of each answer, in words. Assumes nothing.
use Prim.Native.Nat.{ℕ, zero, suc, ◌+◌, ◌≤◌}
use mathlib.Core.Path.{◌≡◌, refl, sym, ap, ◌∙◌, subst, subst⁻¹}
use mathlib.Core.Logic.{◌↔◌}
use mathlib.Core.Bool.{Bool, true, false, cond}
use mathlib.Core.List.{List, [], ◌∷◌, ◌++◌, map, Memᴰ}
use native.Mathlib.Omega.{arith}
use Rattle.laws.specs.Folds.{keep}
use Rattle.rules.specs.Rules.{counts, added, ceiling}
use Rattle.rules.specs.Units.{of_unit}
use Rattle.rules.specs.Allowance.{Largest, KeepsAll}
use Rattle.rules.specs.declared.Level.{Level}
use Rattle.rules.specs.declared.Level.TheVariants.{Firm, Root}
use Rattle.rules.specs.declared.Limit.{Limit}
use Rattle.rules.specs.declared.Rule.{Rule}
use Rattle.rules.proofs.Laws.{grant-largest}
use Rattle.machine.specs.Answer.{Answer, Judged}
use Rattle.machine.specs.declared.Offer.{Offer}
use Rattle.machine.specs.State.{Profile, State}
use Rattle.machine.specs.Calls.{Call, order, lockout, offer, remaining, status, send, report, close}
use Rattle.machine.specs.Deeds.{granted, reported, Deed, filling, clock_after}
use Rattle.demand.specs.Run.{Event, run_of}
use Rattle.machine.specs.Offers.{covers_offer}
use Rattle.demand.specs.Away.{sent_in, fill_in}
use Rattle.demand.specs.History.{deeds_of, amount_of, zeroes}
use Rattle.demand.specs.Locked.{counted_in, rule_trips}
use Rattle.demand.specs.Answers.{verdict_in, grant_in, filled_answer, offer_answer, answer_in, Told, Each}
use Rattle.machine.specs.Judge.{is_refusal}
use Rattle.demand.specs.Demand.{Ranged, Demand3}
use Rattle.demand.specs.Words.{◌answered◌, VerdictBy, Nothing, limits_in, TripsBy, StandingBy, Words}
use Rattle.demand.proofs.Looked.{least-of}
use Rattle.demand.proofs.Theorem.{demand3}
use Rattle.demand.proofs.Verdict.{verdict-by, trips-by, standing_by}

-- the grant that the deeds tell is the largest that keeps the limits
module _ (deeds : List Deed) (o : Offer) where
  largest-in : (rules : List Rule) → Largest (KeepsAll (limits_in rules deeds o) o.premium) o.contracts (grant_in deeds o rules)
  largest-in rules = rw (least-of deeds o rules) (grant-largest (limits_in rules deeds o) o.premium o.contracts)

-- what a fill adds is counted at once, and not more than it adds
module _ (deeds : List Deed) (o : Offer) (n : ℕ) where
  counted-then : (rule : Rule) → counted_in (of_unit rule o.unit) (filling granted o n ∷ deeds) o.time
      ≤ counted_in (of_unit rule o.unit) deeds o.time + added rule.limit o.premium n
  unfolding counted_in zeroes amount_of of_unit clock_after
  counted-then rule =
      go (counts rule.kind o.time o.time) (covers_offer o (of_unit rule o.unit)) (counted_in (of_unit rule o.unit) deeds o.time)
    where
      m : ℕ
      m = added rule.limit o.premium n

      go : (a b : Bool) (c : ℕ) → cond a (cond b m 0) 0 + c ≤ c + m
      go true true c = omega arith
      go true false c = omega arith
      go false b c = omega arith

  -- so a grant that keeps the limits leaves each covering rule within its own
  pub granted-within : (rules : List Rule) → KeepsAll (limits_in rules deeds o) o.premium n → (rule : Rule) → Memᴰ rule rules
      → covers_offer o rule ≡ true
      → counted_in (of_unit rule o.unit) (filling granted o n ∷ deeds) o.time ≤ ceiling rule.limit
  unfolding keep
  granted-within rules keeps rule m covered = each rule rules keeps m covered
    where
      limit : Rule → Limit × ℕ
      limit r = (r.limit, counted_in (of_unit r o.unit) deeds o.time)

      go : (first : Rule) (b : Bool) (more : List Rule) → KeepsAll (map limit (cond b (first ∷ more) more)) o.premium n → KeepsAll (map limit more) o.premium n
      go first true more h = h.1
      go first false more h = h

      each : (rule : Rule) (rules : List Rule) → KeepsAll (limits_in rules deeds o) o.premium n → Memᴰ rule rules
          → covers_offer o rule ≡ true
          → counted_in (of_unit rule o.unit) (filling granted o n ∷ deeds) o.time ≤ ceiling rule.limit
      each rule rules keeps (Memᴰ.head {x = first} {xs = rest} e) covered =
          let its : covers_offer o first ≡ true = ap (covers_offer o) (sym e) ∙ covered in
          let kept = rw its at keeps in
          subst⁻¹ (λ (r : Rule). counted_in (of_unit r o.unit) (filling granted o n ∷ deeds) o.time ≤ ceiling r.limit) e
          (omega (arith, counted-then first, kept.0))
      each rule rules keeps (Memᴰ.tail {x = first} {xs = rest} m) covered =
          each rule rest (go first (covers_offer o first) (keep (covers_offer o) rest) keeps) m covered

-- a grant trips a level
abbrev tripped : List Rule → List Deed → Offer → ℕ → Level → Bool
tripped rules deeds o grant level = rule_trips rules level (filling granted o grant) deeds

-- an offer's answer, taken apart
module _ (rules : List Rule) (deeds : List Deed) (o : Offer) {grant : ℕ} {roottrip firmtrip : Bool} where
  offer-verdict : {verdict : ℕ} (n : ℕ) → Judged verdict grant roottrip firmtrip ≡ offer_answer rules deeds o n → verdict ≡ n
  unfolding offer_answer filled_answer
  offer-verdict zero e = cc
  offer-verdict (suc n) e = cc

  offer-nothing : {verdict : ℕ} (n : ℕ) → Judged (suc verdict) grant roottrip firmtrip ≡ offer_answer rules deeds o n → Nothing grant roottrip firmtrip
  unfolding offer_answer filled_answer
  offer-nothing {verdict} zero e = let z : suc verdict ≡ 0 = cc in absurd (omega arith)
  offer-nothing (suc n) e = (cc, cc, cc)

  offer-grant : (n : ℕ) → Judged 0 grant roottrip firmtrip ≡ offer_answer rules deeds o n
      → (grant ≡ grant_in deeds o rules) × (roottrip ≡ tripped rules deeds o grant (Root o.root)) × (firmtrip ≡ tripped rules deeds o grant Firm)
  unfolding offer_answer filled_answer
  offer-grant zero e = let k : grant ≡ grant_in deeds o rules = cc in (k, rw k (cc), rw k (cc))
  offer-grant (suc n) e = let z : suc n ≡ 0 = cc in absurd (omega arith)

module _ (rules : List Rule) (deeds : List Deed) where
  -- a verdict above 0 has grant 0 and no trips, whatever the call
  locked-nothing : {verdict grant : ℕ} {roottrip firmtrip : Bool} (call : Call)
      → Judged (suc verdict) grant roottrip firmtrip ≡ answer_in rules deeds call → Nothing grant roottrip firmtrip
  unfolding answer_in filled_answer
  locked-nothing (order time root reset) e = (cc, cc, cc)
  locked-nothing {verdict} (lockout time level root) e = let z : suc verdict ≡ 0 = cc in absurd (omega arith)
  locked-nothing (offer o) e = offer-nothing rules deeds o (verdict_in rules o.root deeds) e
  locked-nothing (remaining time rule unit) e = let z : ◌≡◌ {A = ℕ} 0 1 = cc in absurd (omega arith)
  locked-nothing status e = let z : ◌≡◌ {A = ℕ} 0 1 = cc in absurd (omega arith)
  locked-nothing (send o identity reports) e = (cc, cc, cc)
  locked-nothing {verdict} (report time identity n) e = let z : suc verdict ≡ 0 = cc in absurd (omega arith)
  locked-nothing {verdict} (close time identity) e = let z : suc verdict ≡ 0 = cc in absurd (omega arith)

  -- an event is told by its call
  told-as : {event : Event} {call : Call} {answer : Answer} → Told rules event deeds → event ≡ (call answered answer)
      → is_refusal answer ≡ false → answer ≡ answer_in rules deeds call
  told-as t e = subst (λ (x : Event). is_refusal x.answer ≡ false → x.answer ≡ answer_in rules deeds x.call) e t.told

  -- what is told of an event is told in words
  pub told-words : (event : Event) → Told rules event deeds → Words rules event deeds
  unfolding answer_in filled_answer fill_in is_refusal
  told-words event t = record {
    orders = λ {time} {root} {reset} e. subst⁻¹ (VerdictBy rules root _) (let x = told-as t e refl in cc) (verdict-by rules root _);
    offers = λ {o} e. subst⁻¹ (VerdictBy rules o.root deeds) (offer-verdict rules deeds o (verdict o) (told-as t e refl)) (verdict-by rules o.root deeds);
    locked_out = λ {call} e. locked-nothing call (told-as t e refl);
    ordered = λ e. let x = told-as t e refl in (cc, cc, cc);
    lockouts = λ e. let x = told-as t e refl in (cc, (cc, cc, cc));
    grants = λ {o} {grant} e. most o grant e;
    root_trips = λ {o} {grant} e. rw (offer-grant rules deeds o (verdict o) (told-as t e refl)).1 (trips-by rules (Root o.root) (filling granted o grant) deeds);
    firm_trips = λ {o} {grant} e. rw (offer-grant rules deeds o (verdict o) (told-as t e refl)).2 (trips-by rules Firm (filling granted o grant) deeds);
    within = λ {o} {grant} e pos. granted-within deeds o grant rules ((most o grant e).fits pos);
    sendings = λ {o} e. let x = told-as t e refl in (subst⁻¹ (VerdictBy rules o.root deeds) (cc) (verdict-by rules o.root deeds), (cc, cc, cc));
    reports = λ e. let x = told-as t e refl in (cc, cc);
    report_root_trips =
        λ {time} {identity} {n} e.
        subst⁻¹ (λ (b : Bool). (b ≡ true) ↔ TripsBy rules (Root (sent_in identity deeds).root) (told-fill time identity n) deeds)
        (let x = told-as t e refl in cc) (trips-by rules (Root (sent_in identity deeds).root) (told-fill time identity n) deeds);
    report_firm_trips =
        λ {time} {identity} {n} e.
        subst⁻¹ (λ (b : Bool). (b ≡ true) ↔ TripsBy rules Firm (told-fill time identity n) deeds)
        (let x = told-as t e refl in cc) (trips-by rules Firm (told-fill time identity n) deeds);
    closings = λ e. let x = told-as t e refl in (cc, (cc, cc, cc));
    remains = λ e. let x = told-as t e refl in cc;
    stands = λ e. subst⁻¹ (StandingBy rules deeds) (let x = told-as t e refl in cc) (standing_by rules deeds);
  }
    where
      verdict : Offer → ℕ
      verdict o = verdict_in rules o.root deeds

      -- what is granted is the largest that keeps the limits
      most : (o : Offer) (grant : ℕ) {roottrip firmtrip : Bool} → event ≡ (offer o answered Judged 0 grant roottrip firmtrip)
          → Largest (KeepsAll (limits_in rules deeds o) o.premium) o.contracts grant
      most o grant e = rw (offer-grant rules deeds o (verdict o) (told-as t e refl)).0 (largest-in deeds o rules)

      -- what a report does
      told-fill : ℕ → ℕ → ℕ → Deed
      told-fill time identity n = filling (reported identity) (fill_in deeds time identity n) n

-- THE WORDS: what demand 3 tells of a history, it tells in words
pub demand-words : (rules : List Rule) (now : State) (history : List Event) → Demand3 rules now history → Each (Words rules) history
unfolding Each
demand-words rules now history demand = each-words history demand.answers
  where
    each-words : (history : List Event) → Each (Told rules) history → Each (Words rules) history
    each-words [] t = tt
    each-words (event ∷ earlier) t = (told-words rules (deeds_of earlier) event t.0, each-words earlier t.1)

-- so it holds of every run
pub run-words : (p : Profile) → Ranged p → (calls : List Call) → Each (Words p.rules) (run_of p calls).history
run-words p ranged calls = demand-words p.rules (run_of p calls).now (run_of p calls).history (demand3 p ranged calls)

-- what holds of each event holds of any one, by what was done before it
pub each_at : (P : Event → List Deed → Type 0) (later : List Event) (event : Event) (earlier : List Event) → Each P (later ++ (event ∷ earlier))
    → P event (deeds_of earlier)
unfolding Each
each_at P [] event earlier t = t.0
each_at P (newer ∷ later) event earlier t = each_at P later event earlier t.1
