-- The machine refuses by no number below 12: 1, 2 and 4 speak of memory, 3 and 5 to 11 of arming. Assumes nothing.
use Prim.Native.Nat.{ℕ, zero, suc, ◌≤◌, ◌<◌}
use native.Mathlib.Omega.{arith}
use mathlib.Core.Path.{◌≡◌, refl}
use mathlib.Core.List.{List, [], ◌∷◌}
use Rattle.machine.specs.State.{State}
use Rattle.machine.specs.Answer.{Refused}
use Rattle.machine.specs.Calls.{Call, order, lockout, offer, remaining, status, send, report, close}
use Rattle.machine.specs.Refusals.{refusal_of}
use Rattle.machine.specs.Judge.{log_places, judged, unless, judge, step_in, step}
use Rattle.demand.specs.Run.{Run, after_call, run_from}
use Rattle.promises.specs.Day.{NeverRefused}
use Rattle.promises.proofs.Tests.{first-least}
use Rattle.promises.proofs.Holds.{acts-unrefused}

pub refusal-least : (s : State) (call : Call) (n : ℕ) → refusal_of log_places s call ≡ suc n → 12 ≤ suc n
unfolding refusal_of
refusal-least s (order time root reset) n e = first-least 12 _ (tt, (tt, tt)) n e
refusal-least s (lockout time level root) n e = first-least 12 _ (tt, (tt, tt)) n e
refusal-least s (offer o) n e = first-least 12 _ (tt, (tt, (tt, (tt, tt)))) n e
refusal-least s (remaining time rule unit) n e = first-least 12 _ (tt, (tt, tt)) n e
refusal-least s status n e = absurd (omega arith)
refusal-least s (send o identity reports) n e = first-least 12 _ (tt, (tt, (tt, (tt, (tt, (tt, tt)))))) n e
refusal-least s (report time identity k) n e = first-least 12 _ (tt, (tt, (tt, (tt, (tt, tt))))) n e
refusal-least s (close time identity) n e = first-least 12 _ (tt, (tt, (tt, tt))) n e

-- a number below 12 is the answer to no call of the machine
module _ (k : ℕ) (low : k < 12) where
  step-never : (s : State) (call : Call) → (step s call).answer ≡ Refused k → ⊥
  unfolding step step_in judge unless
  step-never s call = go (refusal_of log_places s call) refl
    where
      go : (n : ℕ) → refusal_of log_places s call ≡ n → (unless n (judged s call)).answer ≡ Refused k → ⊥
      go zero e h = acts-unrefused s call k h
      go (suc n) e h = let same : suc n ≡ k = cc in omega (arith, refusal-least s call n e)

  -- so no call of a run is refused with one
  pub run-never : (run : Run) → NeverRefused k run.history → (calls : List Call) → NeverRefused k (run_from run calls).history
  unfolding run_from after_call NeverRefused
  run-never run h [] = h
  run-never run h (call ∷ calls) = run-never (after_call run call) (step-never run.now call, h) calls
