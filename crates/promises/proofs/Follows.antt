-- A day on lent memory follows the machine's run, call by call. Assumes nothing.
use Prim.Native.Nat.{ℕ}
use mathlib.Core.Path.{◌≡◌}
use mathlib.Core.List.{List, [], ◌∷◌}
use Rattle.machine.specs.Calls.{Call}
use Rattle.demand.specs.Run.{Run, after_call, run_from}
use Rattle.promises.specs.Day.{Day, after_call_on, day_from}
use Rattle.promises.proofs.Holds.{Holds, call-answers, call-holds}

-- a day and a run of the machine that have come equally far
pub record Follows (past : List ℕ) (run : Run) (day : Day) : Type 0 where
  pub holds : Holds run.now past day.memory
  pub same : day.history ≡ run.history

-- one call after the other, the memory holds the machine's state and the answers are the machine's
pub follows_on : {past : List ℕ} {run : Run} {day : Day} → Follows past run day → (calls : List Call) → Follows past (run_from run calls) (day_from day calls)
unfolding run_from day_from after_call after_call_on
follows_on {past = past} {run = run} {day = day} f [] = f
follows_on {past = past} {run = run} {day = day} f (call ∷ calls) =
    follows_on {past = past} {run = after_call run call} {day = after_call_on day call}
    (record {
      holds = call-holds f.holds call;
      same = λ i. record { call = call; answer = call-answers f.holds call i } ∷ f.same i;
    })
    calls
