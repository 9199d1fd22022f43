-- What a call leaves as it was, and when it moves the clock. Assumes nothing.
use Rattle.std.specs.Prelude.{ℕ, ◌≡◌, true, false}
use Rattle.machine.specs.State.{State}
use Rattle.machine.specs.Calls.{Call, remaining, status}
use Rattle.machine.specs.Judge.{Result, is_refusal}
use Rattle.demand.specs.Answers.{sets_to}

-- what a call on a state leaves
pub record Moves (s : State) (call : Call) (result : Result) : Type 0 where
  -- a refusal changes nothing, and neither does Remaining or Status
  pub refused : is_refusal result.answer ≡ true → result.after ≡ s
  pub asked : {time rule unit : ℕ} → call ≡ remaining time rule unit → result.after ≡ s
  pub looked : call ≡ status → result.after ≡ s
  -- every other call sets the clock to its time
  pub clock : is_refusal result.answer ≡ false → result.after.part.clock ≡ sets_to call s.part.clock
  -- no call changes the profile
  pub profile : result.after.part.profile ≡ s.part.profile
