-- A day with any calls at all follows the machine's run of its calls on the state. Assumes nothing.
use Prim.Native.Nat.{ℕ}
use native.Mathlib.Omega.{arith}
use mathlib.Core.Path.{◌≡◌, refl, sym, subst}
use mathlib.Core.List.{List, [], ◌∷◌}
use Rattle.rules.specs.Allowance.{All}
use Rattle.state.proofs.Exactly.{taken-apart}
use Rattle.calls.proofs.Cases.{arm-marked}
use Rattle.demand.specs.Run.{Run, after_call, run_from}
use Rattle.promises.proofs.Marked.{sound-marked}
use Rattle.promises.specs.AnyDay.{AnyCall, arm, text, state, AnyDay, after_any, any_from, state_calls, state_events, Usual}
use Rattle.promises.proofs.Holds.{Holds, call-answers, call-holds}

-- a day and a run of the machine that have come equally far
pub record Goes (past : List ℕ) (run : Run) (day : AnyDay) : Type 0 where
  pub holds : Holds run.now past day.memory
  pub same : state_events day.history ≡ run.history
  pub usual : All Usual day.history

-- Arm is refused with 3 and Text touches no state, so both leave the run where it is
pub goes_on : {past : List ℕ} {run : Run} {day : AnyDay} → Goes past run day → (calls : List AnyCall)
    → Goes past (run_from run (state_calls calls)) (any_from day calls)
unfolding run_from any_from after_call after_any state_calls state_events Usual
goes_on {past = past} {run = run} {day = day} g [] = g
goes_on {past = past} {run = run} {day = day} g (arm words ∷ calls) =
    let t = taken-apart day.memory g.holds.sound in
    let three = arm-marked day.memory words t.long (λ z. omega (arith, sound-marked day.memory g.holds.sound)) in
    goes_on {past = past} {run = run} {day = after_any day (arm words)} (record { holds = subst (Holds run.now past) three.1 g.holds; same = g.same; usual = (sym three.0, g.usual) }) calls
goes_on {past = past} {run = run} {day = day} g (text verdict room ∷ calls) =
    goes_on {past = past} {run = run} {day = after_any day (text verdict room)} (record { holds = g.holds; same = g.same; usual = ((refl, refl), g.usual) }) calls
goes_on {past = past} {run = run} {day = day} g (state call ∷ calls) =
    goes_on {past = past} {run = after_call run call} {day = after_any day (state call)}
    (record {
      holds = call-holds g.holds call;
      same = λ i. record { call = call; answer = call-answers g.holds call i } ∷ g.same i;
      usual = (tt, g.usual);
    })
    calls
