-- A day that a library answers on lent memory is a day of the machine: it arms to the freshly armed state, and each call leaves what the machine
-- leaves. Assumes nothing.
use Prim.Native.Nat.{ℕ}
use mathlib.Core.Path.{◌≡◌, refl, ap, ◌∙◌, subst⁻¹}
use mathlib.Core.List.{List, [], ◌∷◌, map}
use lib.ListN.{drop}
use Rattle.profile.specs.Profile.{outcome_of}
use Rattle.state.specs.State.{size, decode}
use Rattle.machine.specs.State.{State, armed}
use Rattle.machine.specs.Judge.{step}
use Rattle.machine.specs.Answer.{Answer}
use Rattle.calls.specs.Calls.{memory_refusal}
use Rattle.demand.specs.Run.{Event, after_call, run_from}
use Rattle.promises.proofs.Holds.{Holds, ready-holds, call-answers, call-holds}
use Rattle.promises.proofs.Unarmed.{unarmed-accepts, unarmed-armed}
use Rattle.bench.specs.Rows.{answers_then, machine_answers}
use Rattle.bench.specs.Library.{Library, Meets, Unarmed, answers_by, arm_refusal_in}
use Rattle.bench.specs.Lent.{Memory, Text, Called}

module _ (l : Library) (meets : Meets l) where
  -- arming with an accepted text
  module _ (m : Memory) (t : Text) (u : Unarmed m) (ok : (outcome_of t.now).refusal ≡ 0) where
    pub arm-accepted : arm_refusal_in (l.arm m t).answer ≡ 0
    unfolding arm_refusal_in
    arm-accepted = ap arm_refusal_in (meets.arm_answers m t ∙ unarmed-accepts m.now u.long u.mark t.now ok)

    pub arm-leaves : Holds (armed (outcome_of t.now).profile) (drop size m.now) (l.arm m t).memory.now
    arm-leaves =
        subst⁻¹ (Holds (armed (outcome_of t.now).profile) (drop size m.now)) (meets.arm_leaves m t)
        (unarmed-armed m.now u.long u.mark t.now ok)

  -- a call on memory that holds a state
  module _ {s : State} {past : List ℕ} (m : Memory) (h : Holds s past m.now) (c : Called) where
    answers-as : (l.call m c).answer ≡ (step s c.call).answer
    answers-as = meets.call_answers m c ∙ call-answers h c.call

    pub call-leaves : Holds (step s c.call).after past (l.call m c).memory.now
    call-leaves = subst⁻¹ (Holds (step s c.call).after past) (meets.call_leaves m c) (call-holds h c.call)

  -- so a day of calls is answered as the machine's run is, whatever came before
  answers-on : {s : State} {past : List ℕ} (m : Memory) → Holds s past m.now → (before : List Event) (day : List Called)
      → answers_then before (answers_by l m day) ≡ answers_then (run_from (record { now = s; history = before }) (map (λ c. c.call) day)).history []
  unfolding answers_by answers_then run_from after_call
  answers-on {s = s} {past = past} m h before [] = refl
  answers-on {s = s} {past = past} m h before (c ∷ day) =
      ap (λ (a : Answer). answers_then before (a ∷ answers_by l (l.call m c).memory day)) (answers-as m h c)
      ∙ answers-on {s = (step s c.call).after} {past = past} (l.call m c).memory (call-leaves m h c) _ day

  -- a day of calls on sound memory is a day of the machine
  pub day-answers : (m : Memory) → memory_refusal m.now ≡ 0 → (day : List Called) → answers_by l m day ≡ machine_answers (decode m.now) (map (λ c. c.call) day)
  unfolding answers_then machine_answers
  day-answers m ready day = answers-on m (ready-holds m.now ready) [] day

  -- and so is one that begins with arming
  pub armed-answers : (m : Memory) (t : Text) → Unarmed m → (outcome_of t.now).refusal ≡ 0 → (day : List Called)
      → answers_by l (l.arm m t).memory day ≡ machine_answers (armed (outcome_of t.now).profile) (map (λ c. c.call) day)
  unfolding answers_then machine_answers
  armed-answers m t u ok day = answers-on (l.arm m t).memory (arm-leaves m t u ok) [] day
