-- A day that holds any calls at all up to the next Clear: orders, lockouts, offers, sendings, reports, closings, Remaining and Status, and Arm and Text
-- between them, each refused or not. Assumes nothing.
use Rattle.std.specs.Prelude.{ℕ, ◌≡◌, List, [], ◌∷◌}
use Rattle.rules.specs.Allowance.{All}
use Rattle.profile.specs.Reading.{Reading, Refused as NotRead}
use Rattle.machine.specs.Calls.{Call}
use Rattle.calls.specs.Calls.{arm_answer, arm_memory, call_answer, call_memory, text_answer, text_memory}
use Rattle.std.specs.Prelude.{Result}
use Rattle.demand.specs.Run.{Event}
use Rattle.promises.specs.Day.{Promised}

-- a call of a day: any but Clear
pub data AnyCall : Type 0 where
  -- Arm with a text
  arm : List ℕ → AnyCall
  -- Text for a verdict, in a room
  text : ℕ → List ℕ → AnyCall
  -- an order, a lockout, an offer, a sending, a report, a closing, Remaining or Status
  state : Call → AnyCall

-- a call with what it was answered; Text's room, as it was lent and as it was left
pub data AnyEvent : Type 0 where
  armed : List ℕ → Reading → AnyEvent
  said : ℕ → List ℕ → Result ℕ ℕ → List ℕ → AnyEvent
  called : Event → AnyEvent

-- a day so far: the memory now, and the calls with their answers, the newest first
pub record AnyDay : Type 0 where
  pub memory : List ℕ
  pub history : List AnyEvent

-- one call more
unfoldable pub after_any : AnyDay → AnyCall → AnyDay
after_any day (arm words) = record {
  memory = arm_memory day.memory words;
  history = armed words (arm_answer day.memory words) ∷ day.history;
}
after_any day (text verdict room) = record {
  memory = day.memory;
  history = said verdict room (text_answer verdict room) (text_memory verdict room) ∷ day.history;
}
after_any day (state call) = record {
  memory = call_memory day.memory call;
  history = called (record { call = call; answer = call_answer day.memory call }) ∷ day.history;
}

-- a day goes on with these calls, the first of them first
unfoldable pub any_from : AnyDay → List AnyCall → AnyDay
any_from day [] = day
any_from day (call ∷ calls) = any_from (after_any day call) calls

-- a day: the memory is armed with a profile's text, and these calls come after
unfoldable pub any_day_of : List ℕ → List ℕ → List AnyCall → AnyDay
any_day_of memory words calls = any_from (record { memory = arm_memory memory words; history = [] }) calls

-- the calls on the state among a day's calls, and among its events: of these demand 3 speaks
unfoldable pub state_calls : List AnyCall → List Call
state_calls [] = []
state_calls (arm words ∷ calls) = state_calls calls
state_calls (text verdict room ∷ calls) = state_calls calls
state_calls (state call ∷ calls) = call ∷ state_calls calls

unfoldable pub state_events : List AnyEvent → List Event
state_events [] = []
state_events (armed words answer ∷ earlier) = state_events earlier
state_events (said verdict room answer left ∷ earlier) = state_events earlier
state_events (called event ∷ earlier) = event ∷ state_events earlier

-- an Arm of a day was refused with 3; Text was answered as on any other day, and left its room so
unfoldable pub Usual : AnyEvent → Type 0
Usual (armed words answer) = answer ≡ NotRead 3 0
Usual (said verdict room answer left) = (answer ≡ text_answer verdict room) × (left ≡ text_memory verdict room)
Usual (called event) = Unit {0}

-- what is promised of such a day: all that is promised of the day of its calls on the state, and that Arm and Text do nothing to it
pub record AnyPromised (before words : List ℕ) (calls : List AnyCall) (day : AnyDay) : Type 0 where
  pub promised : Promised before words (state_calls calls) (record { memory = day.memory; history = state_events day.history })
  pub usual : All Usual day.history
