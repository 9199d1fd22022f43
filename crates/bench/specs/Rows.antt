-- A row of the bench table: a profile's text, the windows of its rules, and a day of calls with the answer that each has to get. Assumes nothing.
use Rattle.std.specs.Prelude.{ℕ, ◌≡◌, List, [], ◌∷◌, map}
use Prim.Native.String.{String}
use Rattle.text.specs.Text.{bytes}
use Rattle.rules.specs.declared.Rule.{Rule}
use Rattle.profile.specs.Profile.{outcome_of}
use Rattle.state.specs.State.{decode}
use Rattle.machine.specs.State.{State, armed}
use Rattle.machine.specs.Calls.{Call}
use Rattle.machine.specs.Judge.{numbers}
use Rattle.machine.specs.Offers.{window_of}
use Rattle.machine.specs.Answer.{Answer}
use Rattle.demand.specs.Run.{Event, run_from}
use Rattle.bench.specs.Lent.{Memory, Text, Called}
use Rattle.bench.specs.Library.{Library, answers_by, arm_refusal_in}

-- a window of 0 stands for an absolute rule; an answer is its row of document 01's numbers, the refusal first
pub record Row : Type 0 where
  pub text : String
  pub windows : List ℕ
  pub day : List (Call × List ℕ)

abbrev pub calls_of : Row → List Call
calls_of row = map (λ c. c.0) row.day

-- the answers of a history, the oldest first, and these after them
unfoldable pub answers_then : List Event → List Answer → List Answer
answers_then [] later = later
answers_then (event ∷ earlier) later = answers_then earlier (event.answer ∷ later)

-- what the machine answers to calls, one after the other
unfoldable pub machine_answers : State → List Call → List Answer
machine_answers s calls = answers_then (run_from (record { now = s; history = [] }) calls).history []

-- what is seen of a row on the machine: the refusal of its text, the windows of the rules that are read, and the numbers of the answers on a unit so armed
pub record Seen : Type 0 where
  pub refusal : ℕ
  pub windows : List ℕ
  pub answers : List (List ℕ)

abbrev pub windows_of : List Rule → List ℕ
windows_of rules = map (λ rule. window_of rule.kind) rules

unfoldable pub seen : Row → Seen
seen row = record {
  refusal = (outcome_of (bytes row.text)).refusal;
  windows = windows_of (outcome_of (bytes row.text)).profile.rules;
  answers = map numbers (machine_answers (armed (outcome_of (bytes row.text)).profile) (calls_of row));
}

-- what has to be seen
unfoldable pub wanted : Row → Seen
wanted row = record { refusal = 0; windows = row.windows; answers = map (λ c. c.1) row.day }

-- what is seen of a library that is given a memory, a text and a day of calls
unfoldable pub seen_by : Library → Memory → Text → List Called → Seen
seen_by l m t day = record {
  refusal = arm_refusal_in (l.arm m t).answer;
  windows = windows_of (decode (l.arm m t).memory.now).part.profile.rules;
  answers = map numbers (answers_by l (l.arm m t).memory day);
}

-- a library does what a row wants: its text and its calls are seen so
pub record Done (l : Library) (m : Memory) (row : Row) : Type 0 where
  pub text : Text
  pub day : List Called
  pub is_text : text.now ≡ bytes row.text
  pub is_day : map (λ c. c.call) day ≡ calls_of row
  pub right : seen_by l m text day ≡ wanted row
