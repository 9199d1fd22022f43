-- A day on lent memory, and what is promised of it: Arm is accepted, then any calls come in any order, each on the memory that the one before it
-- left. Whatever the memory held before, however long it is, and whatever the text, the only thing asked is that Arm accepted. Assumes nothing.
use Rattle.std.specs.Prelude.{ℕ, ◌≡◌, List, [], ◌∷◌, ◌++◌, drop}
use Rattle.rules.specs.Allowance.{All}
use Rattle.tables.specs.Inner.Tables.{zeros}
use Rattle.profile.specs.Profile.{outcome_of, reading_of}
use Rattle.profile.specs.Reading.{Refused as NotRead}
use Rattle.state.specs.State.{size, decode}
use Rattle.state.specs.Sound.{Sound}
use Rattle.machine.specs.Answer.{Refused}
use Rattle.machine.specs.Calls.{Call}
use Rattle.machine.specs.Judge.{Result}
use Rattle.calls.specs.Calls.{arm_answer, arm_memory, clear_answer, clear_memory, call_answer, call_memory}
use Rattle.std.specs.declared.result.Result.TheVariants.{Ok}
use Rattle.demand.specs.Run.{Event, run_of}
use Rattle.demand.specs.Demand.{Demand3}
use Rattle.demand.specs.Answers.{Each}
use Rattle.demand.specs.Words.{Words}
use Rattle.demand.specs.Moves.{Moves}

-- ---- a day

-- how far a day has come: the memory now, and the calls with their answers, the newest first
pub record Day : Type 0 where
  pub memory : List ℕ
  pub history : List Event

-- one call more
unfoldable pub after_call_on : Day → Call → Day
after_call_on day call = record {
  memory = call_memory day.memory call;
  history = record { call = call; answer = call_answer day.memory call } ∷ day.history;
}

-- a day goes on with these calls, the first of them first
unfoldable pub day_from : Day → List Call → Day
day_from day [] = day
day_from day (call ∷ calls) = day_from (after_call_on day call) calls

-- these calls on a memory, with no call before them
unfoldable pub calls_on : List ℕ → List Call → Day
calls_on memory calls = day_from (record { memory = memory; history = [] }) calls

-- a day: the memory is armed with a profile's text, and these calls come after
unfoldable pub day_of : List ℕ → List ℕ → List Call → Day
day_of memory text calls = calls_on (arm_memory memory text) calls

-- ---- what is promised

-- what a call on lent memory is answered, and the state that the memory stands for after it
abbrev pub lent_result : List ℕ → Call → Result
lent_result memory call = record { answer = call_answer memory call; after = decode (call_memory memory call) }

-- no call of a history was refused with this number
unfoldable pub NeverRefused : ℕ → List Event → Type 0
NeverRefused n history = All (λ event. event.answer ≡ Refused n → ⊥) history

-- every call of a history was refused with this number
unfoldable pub AlwaysRefused : ℕ → List Event → Type 0
AlwaysRefused n history = All (λ event. event.answer ≡ Refused n) history

-- what is promised of memory that is not armed, until an Arm is accepted
pub record Idle (memory : List ℕ) : Type 0 where
  -- every call but Arm, Clear and Text is refused with 4, as often as it comes, and changes nothing
  pub refused : (calls : List Call) → AlwaysRefused 4 (calls_on memory calls).history
  pub unchanged : (calls : List Call) → (calls_on memory calls).memory ≡ memory
  -- Arm is judged by its text alone, and a refused Arm changes nothing
  pub judged : (text : List ℕ) → arm_answer memory text ≡ reading_of (outcome_of text)
  pub unarmed : (text : List ℕ) (number line : ℕ) → arm_answer memory text ≡ NotRead number line → arm_memory memory text ≡ memory

-- what is promised of a day that began with this memory, was armed with this text, and went on with these calls
pub record Promised (before text : List ℕ) (calls : List Call) (day : Day) : Type 0 where
  -- demand 3, of the profile's rules, the calls and answers of the day, and the state that the memory holds now
  pub demand : Demand3 (outcome_of text).profile.rules (decode day.memory) day.history
  -- demand 3 in words, of each call and answer of the day
  pub words : Each (Words (outcome_of text).profile.rules) day.history
  -- and what one call more leaves
  pub moves : (call : Call) → Moves (decode day.memory) call (lent_result day.memory call)
  -- the answers are the machine's, and the memory holds the machine's state
  pub answers : day.history ≡ (run_of (outcome_of text).profile calls).history
  pub state : decode day.memory ≡ (run_of (outcome_of text).profile calls).now
  -- no call is refused because the memory is short (1), not sound (2) or not armed (4)
  pub not_short : NeverRefused 1 day.history
  pub not_unsound : NeverRefused 2 day.history
  pub not_unarmed : NeverRefused 4 day.history
  -- the memory is sound, and the numbers past the state are as they were
  pub sound : Sound day.memory
  pub past : drop size day.memory ≡ drop size before
  -- a second Arm is refused with 3, and changes nothing
  pub armed_once : (other : List ℕ) → (arm_answer day.memory other ≡ NotRead 3 0) × (arm_memory day.memory other ≡ day.memory)
  -- Clear ends the day: the state's numbers become zeros, the rest is as it was, and the memory is idle
  pub clears : clear_answer day.memory ≡ Ok tt
  pub zeroed : clear_memory day.memory ≡ zeros size ++ drop size before
  pub ended : Idle (clear_memory day.memory)

-- what is promised of every day
unfoldable pub DayPromised : List ℕ → List ℕ → List Call → Type 0
DayPromised memory text calls = Promised memory text calls (day_of memory text calls)
