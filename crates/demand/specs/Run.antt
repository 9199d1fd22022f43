-- A run of calls on a unit that was just armed. Assumes nothing.
use Rattle.std.specs.Prelude.{List, [], ◌∷◌}
use Rattle.machine.specs.State.{Profile, State, armed}
use Rattle.machine.specs.Answer.{Answer}
use Rattle.machine.specs.Calls.{Call}
use Rattle.machine.specs.Judge.{step}

-- a call and its answer
pub record Event : Type 0 where
  pub call : Call
  pub answer : Answer

-- the state now, and the history since arming, with the newest event first
pub record Run : Type 0 where
  pub now : State
  pub history : List Event

-- one call more
unfoldable pub after_call : Run → Call → Run
after_call run call = record {
  now = (step run.now call).after;
  history = record { call = call; answer = (step run.now call).answer } ∷ run.history;
}

-- a run goes on with these calls, the first of them first
unfoldable pub run_from : Run → List Call → Run
run_from run [] = run
run_from run (call ∷ calls) = run_from (after_call run call) calls

-- these calls on a unit that was just armed with a profile
unfoldable pub run_of : Profile → List Call → Run
run_of profile calls = run_from (record { now = armed profile; history = [] }) calls
