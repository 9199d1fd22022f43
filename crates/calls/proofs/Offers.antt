-- An offer on sound memory: refused, locked out, or granted. Assumes nothing.
use Prim.Native.Nat.{ℕ, zero, suc, ◌+◌, ◌-◌, ◌≤◌, ◌<◌, min, zero-le}
use native.Mathlib.Omega.{arith}
use native.Mathlib.Nat.{suc-ne-zero}
use mathlib.Core.Path.{◌≡◌, refl, sym, ap, ap₂, ◌∙◌}
use mathlib.Core.Bool.{Bool, true, false, not, cond, ◌&&◌, and_assoc}
use mathlib.Core.List.{List}
use lib.ListN.{length}
use lib.Dec.{eqb, leb, ltb}
use borrow.Author.Tests.{ne_eqb, lt-ltb, le-ltb, le-leb, leb-true, ltb-true, ltb-false, not-false}
use Rattle.laws.proofs.Tests.{and_l, and_r, same_test}
use Rattle.measures.specs.Ranges.{is_in, times, units, premiums, offers}
use Rattle.measures.proofs.Determined.{test_in}
use Rattle.rules.specs.declared.Level.TheVariants.{Firm, Root}
use Rattle.machine.specs.Entries.{are_ordered, recent}
use Rattle.rules.specs.Valid.{has_rate}
use Rattle.machine.specs.Calls.{offer}
use Rattle.machine.specs.State.{State, rules_in, roots_in}
use Rattle.machine.specs.Register.{kept_places, register_after}
use Rattle.machine.specs.Refusals.{first_of, bad_time, is_root, used, log_full, no_places, refusal_of}
use Rattle.machine.specs.Locks.{verdict_of}
use Rattle.machine.specs.Offers.{grant_of, level_trips, longest}
use Rattle.machine.specs.Judge.{log_places, filled, offered, judged, is_refusal}
use Rattle.state.specs.State.{decode, stored}
use Rattle.state.specs.Inner.Laid.{Fits, with_clock}
use Rattle.state.proofs.Exactly.{sound-decode}
use Rattle.machine.specs.declared.Offer.{Offer}
use Rattle.machine.specs.Answer.{Judged}
use Rattle.machine.specs.Deeds.{granted, filling, clock_after}
use Rattle.machine.specs.Step.{after, part_after, accounts_after, locks_after, log_after}
use Rattle.machine.proofs.Lists.{ordered-wider}
use Rattle.machine.proofs.Windows.{rate-longest}
use Rattle.grant.specs.Inner.Grant.{Fillable, AreCuts, Ready, HasRoom}
use Rattle.grant.specs.declared.Levels.{Levels}
use Rattle.grant.proofs.Trip.{grant-cuts}
use Rattle.calls.specs.Calls.{memory_refusal, timed_refusal, refusal_in, offer_refusal, call_answer, call_memory, is_short_of, Met, Granting}
use Rattle.calls.proofs.Armed.{sound-memory}
use Rattle.calls.proofs.Steps.{done, laid, acts}
use Rattle.calls.proofs.Timed.{timed-ready, timed-late, timed-refused, timed-met}

-- so many places more pass those of the log: not without a rate rule, else by the use
pub short-is : (s : State) (time n : ℕ) → n ≤ 512 → (b : Bool) → b ≡ ltb (used s time) (512 + 1 - n) → not b ≡ is_short_of s time n
unfolding is_short_of used
short-is s time n few b e = ap not e ∙ go (has_rate (rules_in s))
  where
    inside : ℕ
    inside = length (recent (longest (rules_in s)) time s.log) + kept_places s.part.register

    some : (b : Bool) → ltb inside (512 + 1 - n) ≡ b → not b ≡ ltb 512 (inside + n)
    some true e = sym (le-ltb 512 (inside + n) (omega (arith, few, ltb-true inside (512 + 1 - n) e)))
    some false e = sym (lt-ltb 512 (inside + n) (omega (arith, few, ltb-false inside (512 + 1 - n) e)))

    go : (h : Bool) → not (ltb (cond h inside 0) (512 + 1 - n)) ≡ (h && ltb 512 (cond h inside 0 + n))
    go true = some (ltb inside (512 + 1 - n)) refl
    go false = ap not (lt-ltb 0 (512 + 1 - n) (omega (arith, few)))

-- no place more is free where the entries inside the longest window and the kept places take all
pub full_by : {s : State} → Fits s → (time : ℕ) {window passed kept : ℕ} → window ≡ longest (rules_in s) → passed ≡ length (recent window time s.log)
    → kept ≡ kept_places s.part.register → (ltb 0 window && leb 512 (passed + kept)) ≡ is_short_of s time 1
unfolding is_short_of used
full_by {s} f time {window} {passed} {kept} is many holds =
    let n = length (recent (longest (rules_in s)) time s.log) + kept_places s.part.register in
    let sum : passed + kept ≡ n = ap₂ (λ (a b : ℕ). a + b) (many ∙ ap (λ (w : ℕ). length (recent w time s.log)) is) holds in
    ap₂ (λ (w m : ℕ). ltb 0 w && leb 512 m) is sum ∙ go (ltb 0 (longest (rules_in s))) n ∙ rw (rate-longest (roots_in s) (rules_in s) f.valid).0
  where
    go : (b : Bool) (n : ℕ) → (b && leb 512 n) ≡ (b && ltb 512 (cond b n 0 + 1))
    go true n = same_test (leb 512 n) (ltb 512 (n + 1)) (λ h. lt-ltb 512 (n + 1) (omega (arith, leb-true 512 n h))) (λ h. le-leb 512 n (omega (arith, ltb-true 512 (n + 1) h)))
    go false n = refl

-- an order to be sent away that is not locked out asks for its places
pub lacks-is : (s : State) (o : Offer) (reports v : ℕ) (b : Bool) → v ≡ verdict_of s.part.locks o.root → b ≡ is_short_of s o.time reports
    → (eqb v 0 && b) ≡ no_places log_places s o reports
unfolding no_places is_short_of
lacks-is s o reports v b p q =
    rw (p, q) (sym (and_assoc (eqb (verdict_of s.part.locks o.root) 0) (has_rate (rules_in s)) (ltb log_places (used s o.time + reports))))

-- a place more than the use is above 512 exactly if the use is 512 or more
one_more : (n : ℕ) → leb 512 n ≡ ltb 512 (n + 1)
one_more n = same_test (leb 512 n) (ltb 512 (n + 1)) (λ h. lt-ltb 512 (n + 1) (omega (arith, leb-true 512 n h))) (λ h. le-leb 512 n (omega (arith, ltb-true 512 (n + 1) h)))

-- the log is in order of time, and has no entry later than a time that is not refused
pub in_order : (xs : List ℕ) → memory_refusal xs ≡ 0 → (time : ℕ) → (decode xs).part.clock ≤ time → are_ordered 0 time (decode xs).log ≡ true
in_order xs ready time le =
    let s = decode xs in
    ordered-wider 0 0 s.part.clock time zero-le le s.log (sound-decode xs (sound-memory xs ready)).ordered

-- nor has it one later than a time that the clock lets pass
pub timed-order : (xs : List ℕ) (time : ℕ) → timed_refusal xs time ≡ 0 → are_ordered 0 time (decode xs).log ≡ true
unfolding bad_time
timed-order xs time e =
    let w = not-false (is_in times time && leb (decode xs).part.clock time) (timed-late xs time e) in
    in_order xs (timed-ready xs time e) time (leb-true (decode xs).part.clock time (and_r (is_in times time) (leb (decode xs).part.clock time) w))

-- an offer whose numbers are in range and that is not locked out
module _ (xs : List ℕ) (o : Offer) (g : Granting xs o) (grant : ℕ) (is : grant ≡ grant_of (decode xs).log o (decode xs).part.accounts) where
  full_is : log_full log_places (decode xs) o ≡ (ltb 0 grant && is_short_of (decode xs) o.time 1)
  unfolding log_full is_short_of
  full_is = rw (g.free, ← is, one_more (used (decode xs) o.time)) (and_assoc (ltb 0 grant) _ _)

  pub refusal_is : (b : Bool) → (ltb 0 grant && is_short_of (decode xs) o.time 1) ≡ b → refusal_of log_places (decode xs) (offer o) ≡ cond b 15 0
  unfolding refusal_of first_of
  refusal_is b t = rw (g.met.timely, g.met.known, g.met.priced, full_is, t)

  pub has_room : (ltb 0 grant && is_short_of (decode xs) o.time 1) ≡ false → HasRoom (decode xs) o grant
  unfolding is_short_of used
  has_room t r pos = omega (arith, ltb-false 512 (length (recent (longest (rules_in (decode xs))) o.time (decode xs).log) + kept_places (decode xs).part.register + 1) (rw (lt-ltb 0 grant pos, r) at t))

  pub granted-is : (a b : Bool) → a ≡ level_trips granted (decode xs).log o grant (decode xs).part.accounts (Root o.root)
      → b ≡ level_trips granted (decode xs).log o grant (decode xs).part.accounts Firm → (ltb 0 grant && is_short_of (decode xs) o.time 1) ≡ false
      → (Judged 0 grant a b ≡ call_answer xs (offer o)) × (stored (after (filling granted o grant) (decode xs)) xs ≡ call_memory xs (offer o))
  unfolding judged offered filled is_refusal
  granted-is a b p q t =
      let d = acts xs g.met.ready (offer o) (refusal_is false t) (rw g.free) in
      (rw (p, q, is) (rw g.free at d.0), rw is (rw g.free at d.1))

  pub ready-is : (cuts : Levels ℕ) → AreCuts xs o cuts → (ltb 0 grant && is_short_of (decode xs) o.time 1) ≡ false → Ready xs o grant cuts
  ready-is cuts k t = record {
    asked = g.asked;
    totals = (sound-decode xs (sound-memory xs g.met.ready)).totals;
    levels = k;
    least = is;
    room = has_room t;
  }

pub least-is : (xs : List ℕ) (o : Offer) (cuts : Levels ℕ) → AreCuts xs o cuts → (n : ℕ) → n ≡ min cuts.root cuts.firm → n ≡ grant_of (decode xs).log o (decode xs).part.accounts
least-is xs o cuts k n e = rw (e, k.root, k.firm) (sym (grant-cuts (decode xs).log o (decode xs).part.accounts))

-- an offer's refusal by its numbers, after that by the memory and the time
module _ (xs : List ℕ) (o : Offer) where
  pub offer-timed : (n : ℕ) → n ≡ timed_refusal xs o.time → (n ≡ 0 → ⊥) → n ≡ offer_refusal xs o
  unfolding offer_refusal first_of
  offer-timed n e h = timed-refused xs o.time _ n e h

  module _ (e : timed_refusal xs o.time ≡ 0) (roots : ℕ) (roots-is : roots ≡ roots_in (decode xs)) (u : Bool) (unit-is : u ≡ is_in units o.unit) where
    known_is : not (is_root (decode xs).part o.root && is_in units o.unit) ≡ not (ltb o.root roots && u)
    unfolding is_root roots_in
    known_is = rw (← roots-is, unit-is)

    pub offer-unknown : not (ltb o.root roots && u) ≡ true → 13 ≡ offer_refusal xs o
    unfolding offer_refusal first_of
    offer-unknown t = rw (known_is ∙ t) (timed-met xs o.time 13 e)

    pub offer-priced : not (ltb o.root roots && u) ≡ false → (p : Bool) → p ≡ (is_in premiums o.premium && is_in offers o.contracts)
        → cond (not p) 14 0 ≡ offer_refusal xs o
    unfolding offer_refusal first_of
    offer-priced known p priced-is = rw (known_is ∙ known, ← priced-is) (timed-met xs o.time (cond (not p) 14 0) e)

-- an offer that its numbers refuse is refused, and one that they do not refuse has met all that they ask
abbrev is_priced : Offer → Bool
is_priced o = is_in premiums o.premium && is_in offers o.contracts

abbrev is_known : List ℕ → Offer → Bool
is_known xs o = is_root (decode xs).part o.root && is_in units o.unit

module _ (xs : List ℕ) (o : Offer) where
  pub offer-refused : (n : ℕ) → n ≡ offer_refusal xs o → (n ≡ 0 → ⊥) → n ≡ refusal_in xs (offer o)
  unfolding offer_refusal refusal_in refusal_of first_of
  offer-refused n e h =
      go (eqb (memory_refusal xs) 0) (bad_time (decode xs).part o.time) (not (is_known xs o)) (not (is_priced o)) (cond (log_full log_places (decode xs) o) 15 0)
      (memory_refusal xs) n e h
    where
      go : (a b c d : Bool) (rest k n : ℕ) → n ≡ cond a (cond b 12 (cond c 13 (cond d 14 0))) k → (n ≡ 0 → ⊥) → n ≡ cond a (cond b 12 (cond c 13 (cond d 14 rest))) k
      go false b c d rest k n e h = e
      go true true c d rest k n e h = e
      go true false true d rest k n e h = e
      go true false false true rest k n e h = e
      go true false false false rest k n e h = absurd (h e)

  pub offer-met : offer_refusal xs o ≡ 0 → Met xs o
  unfolding offer_refusal first_of
  offer-met e = go (memory_refusal xs) refl (bad_time (decode xs).part o.time) refl (not (is_known xs o)) refl (not (is_priced o)) refl e
    where
      go : (k : ℕ) → memory_refusal xs ≡ k → (b : Bool) → bad_time (decode xs).part o.time ≡ b → (c : Bool) → not (is_known xs o) ≡ c → (d : Bool)
          → not (is_priced o) ≡ d → cond (eqb k 0) (cond b 12 (cond c 13 (cond d 14 0))) k ≡ 0 → Met xs o
      go zero r false t false n false p e = record { ready = r; timely = t; known = n; priced = p }
      go zero r true t c n d p e = absurd (omega arith)
      go zero r false t true n d p e = absurd (omega arith)
      go zero r false t false n true p e = absurd (omega arith)
      go (suc j) r b t c n d p e = absurd (suc-ne-zero j (rw (ne_eqb (suc j) 0 (λ z. omega arith)) at e))

module _ (xs : List ℕ) (o : Offer) (m : Met xs o) where
  pub met-asked : Fillable xs o
  unfolding bad_time is_root
  met-asked =
      let s = decode xs in
      let w = not-false (is_in times o.time && leb s.part.clock o.time) m.timely in
      let k = not-false (is_known xs o) m.known in
      let p = not-false (is_priced o) m.priced in
      record {
        laid = laid xs m.ready;
        root = ltb-true _ _ (and_l (is_root s.part o.root) (is_in units o.unit) k);
        unit = test_in units o.unit (and_r (is_root s.part o.root) (is_in units o.unit) k);
        premium = test_in premiums o.premium (and_l (is_in premiums o.premium) (is_in offers o.contracts) p);
        contracts = test_in offers o.contracts (and_r (is_in premiums o.premium) (is_in offers o.contracts) p);
        time = test_in times o.time (and_l (is_in times o.time) (leb s.part.clock o.time) w);
        ordered = in_order xs m.ready o.time (leb-true s.part.clock o.time (and_r (is_in times o.time) (leb s.part.clock o.time) w));
      }

  pub met-low : o.root < 64
  unfolding roots_in
  met-low = omega (arith, met-asked.root, met-asked.laid.fits.roots)

  pub met-free : verdict_of (decode xs).part.locks o.root ≡ 0 → Granting xs o
  met-free v = record { met = m; asked = met-asked; free = v }

  -- an offer that is locked out moves the clock alone
  pub locked-out : (v : ℕ) → v ≡ verdict_of (decode xs).part.locks o.root → (v ≡ 0 → ⊥)
      → (Judged v 0 false false ≡ call_answer xs (offer o)) × (stored (with_clock (decode xs) o.time) xs ≡ call_memory xs (offer o))
  unfolding refusal_of first_of log_full judged offered is_refusal after part_after clock_after accounts_after locks_after log_after register_after
  locked-out v e z =
      let r : refusal_of log_places (decode xs) (offer o) ≡ 0 = rw (m.timely, m.known, m.priced, ← e, ne_eqb v 0 z) in go v e z (acts xs m.ready (offer o) r)
    where
      go : (v : ℕ) → v ≡ verdict_of (decode xs).part.locks o.root → (v ≡ 0 → ⊥)
          → (is_refusal (judged (decode xs) (offer o)).answer ≡ false
          → ((judged (decode xs) (offer o)).answer ≡ call_answer xs (offer o)) × (stored (done xs (offer o)) xs ≡ call_memory xs (offer o)))
          → (Judged v 0 false false ≡ call_answer xs (offer o)) × (stored (with_clock (decode xs) o.time) xs ≡ call_memory xs (offer o))
      go zero e z d = absurd (z refl)
      go (suc v) e z d = let f = rw (← e) at d in ((f refl).0, (f refl).1)
