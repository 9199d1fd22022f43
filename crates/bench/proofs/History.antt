-- What demand 3 shuts out by itself, over the history of any library's answers: one that counts only the first fill. Assumes nothing.
use Prim.Native.Nat.{ℕ, zero, suc, ◌≤◌}
use native.Mathlib.Omega.{arith}
use mathlib.Core.Path.{◌≡◌, refl, sym, ap, ◌∙◌, subst, subst⁻¹}
use mathlib.Core.Bool.{Bool}
use mathlib.Core.List.{List, [], ◌∷◌, map, Memᴰ}
use lib.ListN.{drop}
use Rattle.rules.specs.Rules.{covers, added, ceiling}
use Rattle.rules.specs.declared.Rule.{Rule}
use Rattle.profile.specs.Profile.{outcome_of}
use Rattle.profile.specs.Reading.{Accepted}
use Rattle.state.specs.State.{size}
use Rattle.rules.specs.Units.{is_unit_of, scope_for, of_unit}
use Rattle.machine.specs.State.{State}
use Rattle.machine.specs.declared.Offer.{Offer}
use Rattle.machine.specs.Calls.{offer}
use Rattle.machine.specs.Deeds.{Deed, granted, filling}
use Rattle.machine.specs.Offers.{covers_offer}
use Rattle.machine.specs.Answer.{Answer, Judged}
use Rattle.machine.specs.Judge.{step}
use Rattle.demand.specs.Run.{Event, after_call, run_from, run_of}
use Rattle.demand.specs.History.{is_reported, is_away, if_granted, deed_of, deeds_of, contracts_of, amount_of, zeroes, NoneOf}
use Rattle.demand.specs.Sums.{in_stretch, sum_by, Within}
use Rattle.demand.specs.Answers.{granted_by, Each}
use Rattle.demand.specs.Demand.{Demand3}
use Rattle.demand.proofs.Theorem.{demand3}
use Rattle.promises.proofs.Holds.{Holds, call-answers, arm-holds, arm-ranged}
use Rattle.bench.specs.Lent.{Memory, Text, Called, Offered, called}
use Rattle.bench.specs.Library.{Library, Meets, history_by, MeetsDemand3, CountsFirstOnly, hundred, forty, armed_by, answer_to, memory_left_by}
use Rattle.bench.proofs.Computed.{hundred_rule, hundred-rule}
use Rattle.bench.proofs.Runs.{call-leaves}

-- an offer of 40 that an answer grants 40 of is a fill of 40, if what it granted is summed
forty-filled : (deeds : List Deed) (verdict : ℕ) (roottrip firmtrip : Bool) → contracts_of (deed_of deeds (offer forty) (Judged verdict 40 roottrip firmtrip)) ≡ 40
    → deed_of deeds (offer forty) (Judged verdict 40 roottrip firmtrip) ≡ filling granted forty 40
unfolding deed_of if_granted contracts_of
forty-filled deeds zero roottrip firmtrip e = refl
forty-filled deeds (suc verdict) roottrip firmtrip e = absurd (omega arith)

-- three such fills are more than 100
three-fills : Within (of_unit hundred_rule 0) (filling granted forty 40 ∷ filling granted forty 40 ∷ filling granted forty 40 ∷ []) → ⊥
unfolding Within NoneOf zeroes sum_by is_away is_reported in_stretch amount_of covers_offer covers added ceiling of_unit scope_for
three-fills within =
    let least : 120 ≤ 100 = (within [] (filling granted forty 40 ∷ filling granted forty 40 ∷ filling granted forty 40 ∷ []) [] refl (refl, (refl, (refl, tt))) 0).1 in
    omega arith

-- an offer that is summed as what its answer grants
filled : (deeds : List Deed) (o : Offer) → o ≡ forty → (verdict : ℕ) (roottrip firmtrip : Bool) (answer : Answer) → answer ≡ Judged verdict 40 roottrip firmtrip
    → contracts_of (deed_of deeds (offer o) answer) ≡ granted_by answer → deed_of deeds (offer o) answer ≡ filling granted forty 40
unfolding granted_by
filled deeds o same verdict roottrip firmtrip answer is =
    subst⁻¹ (λ (x : Offer). contracts_of (deed_of deeds (offer x) answer) ≡ granted_by answer → deed_of deeds (offer x) answer ≡ filling granted forty 40) same
    (subst⁻¹ (λ (x : Answer). contracts_of (deed_of deeds (offer forty) x) ≡ granted_by x → deed_of deeds (offer forty) x ≡ filling granted forty 40) is
    (forty-filled deeds verdict roottrip firmtrip))

-- a library whose days meet demand 3, the text of a limit of 100, and an offer of 40
module _ (l : Library) (meets : MeetsDemand3 l) (t : Text) (is_hundred : t.now ≡ hundred) (o : Offered) (is_forty : o.offer ≡ forty) where
  module _ (m : Memory) (firm rules roots : ℕ) (ok : (l.arm m t).answer ≡ Accepted firm rules roots) where
    its-rule : Memᴰ hundred_rule (outcome_of t.now).profile.rules
    its-rule =
        subst⁻¹ (λ (all : List Rule). Memᴰ hundred_rule all) (ap (λ (text : List ℕ). (outcome_of text).profile.rules) is_hundred ∙ hundred-rule)
        (Memᴰ.head refl)

    -- NEVER THREE TIMES 40, at whatever verdicts
    pub not-thrice-forty : (u v w : ℕ) (a b c d e f : Bool) → answer_to l o (armed_by l m t) ≡ Judged u 40 a b → answer_to l o (memory_left_by l o (armed_by l m t)) ≡ Judged v 40 c d
        → answer_to l o (memory_left_by l o (memory_left_by l o (armed_by l m t))) ≡ Judged w 40 e f → ⊥
    unfolding history_by Each deeds_of is_unit_of
    not-thrice-forty u v w a b c d e f first second third =
        let met = (meets m t firm rules roots ok (called o ∷ called o ∷ called o ∷ [])).1 in
        let told = met.answers in
        let fill1 = filled _ o.offer is_forty u a b (answer_to l o (armed_by l m t)) first told.1.1.0.summed in
        let fill2 = filled _ o.offer is_forty v c d (answer_to l o (memory_left_by l o (armed_by l m t))) second told.1.0.summed in
        let fill3 = filled _ o.offer is_forty w e f (answer_to l o (memory_left_by l o (memory_left_by l o (armed_by l m t)))) third told.0.summed in
        three-fills (subst (Within (of_unit hundred_rule 0)) (λ i. fill3 i ∷ fill2 i ∷ fill1 i ∷ []) (met.sums hundred_rule its-rule 0 refl))

    -- so one that counts the first fill alone, and grants the first two, does not meet demand 3
    pub not-first-only-by-demand : CountsFirstOnly l → (u v : ℕ) (a b c d : Bool) → answer_to l o (armed_by l m t) ≡ Judged u 40 a b
        → answer_to l o (memory_left_by l o (armed_by l m t)) ≡ Judged v 40 c d → ⊥
    not-first-only-by-demand only u v a b c d first second =
        not-thrice-forty u v v a b c d c d first second (only (armed_by l m t) o o o (omega arith) (omega arith) ∙ second)

-- a library that meets the contracts meets demand 3
module _ (l : Library) (meets : Meets l) where
  history-on : {s : State} {past : List ℕ} (m : Memory) → Holds s past m.now → (before : List Event) (day : List Called)
      → history_by l m day before ≡ (run_from (record { now = s; history = before }) (map (λ c. c.call) day)).history
  unfolding history_by run_from after_call
  history-on {s = s} {past = past} m h before [] = refl
  history-on {s = s} {past = past} m h before (c ∷ day) =
      ap (λ (a : Answer). history_by l (l.call m c).memory day (record { call = c.call; answer = a } ∷ before)) (meets.call_answers m c ∙ call-answers h c.call)
      ∙ history-on {s = (step s c.call).after} {past = past} (l.call m c).memory (call-leaves l meets m h c) _ day

  pub contracts-keep-demand : MeetsDemand3 l
  unfolding run_of
  contracts-keep-demand m t firm rules roots ok day =
      let p = (outcome_of t.now).profile in
      let calls = map (λ (c : Called). c.call) day in
      let accepted = sym (meets.arm_answers m t) ∙ ok in
      let holds = arm-holds m.now t.now firm rules roots accepted in (
        (run_of p calls).now,
        subst⁻¹ (Demand3 p.rules (run_of p calls).now)
            (history-on (l.arm m t).memory (subst⁻¹ (Holds _ (drop size m.now)) (meets.arm_leaves m t) holds) [] day) (demand3 p (arm-ranged m.now t.now firm rules roots accepted) calls),
      )
