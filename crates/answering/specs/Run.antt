-- A run of event records over lent memory: what each is answered, the memory that it leaves, and the lines of all. Assumes nothing.
use Rattle.std.specs.Prelude.{Result, ℕ, ◌+◌, ◌-◌, ◌*◌, ◌/◌, ◌%◌, ◌^◌, min, ◌≤◌, ◌<◌, Bool, true, false, List, [], ◌∷◌, ◌++◌, length, take, drop}
use Rattle.tables.specs.Inner.Tables.{places}
use Rattle.profile.specs.Reading.{Reading as Arming, Accepted, Refused as NotArmed}
use Rattle.machine.specs.Calls.{Call, order, lockout, offer, send, report, close}
use Rattle.machine.specs.declared.Offer.{Offer as Offered}
use Rattle.machine.specs.Answer.{Answer, Refused}
use Rattle.calls.specs.Calls.{call_answer, call_memory}
use Rattle.records.specs.Event16.{bytes16, read16_of}
use Rattle.records.specs.declared.Event16.{Event16}
use Rattle.records.specs.declared.Event16.TheVariants.{Order, Offer, Lockout, Sending, Report, Closing}
use Rattle.std.specs.declared.result.Result.TheVariants.{Ok, Err}
use Rattle.refusals.specs.declared.Refusal.{Refusal}
use Rattle.refusals.specs.Numbers.{refusal_number}
use Rattle.answering.specs.Lines.{arm_line, record_line}
use Rattle.answering.specs.declared.Opened.{Opened}
use Rattle.answering.specs.declared.Ran.{Ran}

-- bytes stand in a room
pub record FitsRoom (bytes room : ℕ) : Type 0 where
  pub inside : bytes ≤ room

-- lines stand in a room, and the place after the last is a 64-bit number
pub record Fitted (place : ℕ) (r : Ran) (room : ℕ) : Type 0 where
  pub inside : r.bytes ≤ room
  pub counted : place + r.records < 2 ^ 64

-- a line from place at to r has at most 126 bytes, and stands in the room
pub record Line (r at room : ℕ) : Type 0 where
  pub short : r ≤ at + 126
  pub inside : r ≤ room

-- a text in front of what a room holds: the room after it is untouched
unfoldable pub in_front : List ℕ → List ℕ → List ℕ
in_front text room = text ++ drop (length text) room

-- whether a unit is armed, and how many bytes the line about it has
unfoldable pub is_armed : Arming → Bool
is_armed (Accepted firm rules roots) = true
is_armed (NotArmed number line) = false

unfoldable pub opened_of : Arming → Opened
opened_of arming = record { armed = is_armed arming; bytes = length (arm_line arming) }

-- microseconds in whole milliseconds: the remainder is dropped
abbrev pub milliseconds : ℕ → ℕ
milliseconds time = time / 1000

-- an offer, or an order to be sent away, at a time in microseconds
abbrev pub offer_said : ℕ → ℕ → ℕ → ℕ → ℕ → Offered
offer_said time root unit premium contracts =
    record { time = milliseconds time; root = root; unit = unit; premium = premium; contracts = contracts }

-- the call that an event asks for: a record counts microseconds, a call whole milliseconds
unfoldable pub record_call : Event16 → Call
record_call (Order time root reset) = order (milliseconds time) root reset
record_call (Offer time root unit premium contracts) = offer (offer_said time root unit premium contracts)
record_call (Lockout time level root) = lockout (milliseconds time) level root
record_call (Sending time root unit premium contracts identity reports) =
    send (offer_said time root unit premium contracts) identity reports
record_call (Report time identity contracts) = report (milliseconds time) identity contracts
record_call (Closing time identity) = close (milliseconds time) identity

-- what a record is answered: what its event's call is, or 16
unfoldable pub reading_answer : List ℕ → Result Event16 Refusal → Answer
reading_answer xs (Ok e) = call_answer xs (record_call e)
reading_answer xs (Err r) = Refused (refusal_number r)

-- the memory after a record: a faulty one changes nothing
unfoldable pub memory_of : List ℕ → Result Event16 Refusal → List ℕ
memory_of xs (Ok e) = call_memory xs (record_call e)
memory_of xs (Err r) = xs

abbrev pub record_answer : List ℕ → List ℕ → Answer
record_answer xs s = reading_answer xs (read16_of s)

abbrev pub record_memory : List ℕ → List ℕ → List ℕ
record_memory xs s = memory_of xs (read16_of s)

-- how many records an input has: one for each 16 bytes, and one for what is left at its end
unfoldable pub record_count : ℕ → ℕ
record_count bytes = bytes / bytes16 + (bytes % bytes16 + (bytes16 - 1)) / bytes16

-- the first so many records of an input: 16 bytes each, the last may be shorter
unfoldable pub first_records : ℕ → List ℕ → List (List ℕ)
first_records count s = places bytes16 (take bytes16) count s

unfoldable pub records_of : List ℕ → List (List ℕ)
records_of s = first_records (record_count (length s)) s

-- the memory after records, and their lines from a place on
unfoldable pub memory_after : List ℕ → List (List ℕ) → List ℕ
memory_after xs [] = xs
memory_after xs (s ∷ rest) = memory_after (record_memory xs s) rest

unfoldable pub lines_of : ℕ → List ℕ → List (List ℕ) → List ℕ
lines_of place xs [] = []
lines_of place xs (s ∷ rest) = record_line place (record_answer xs s) ++ lines_of (place + 1) (record_memory xs s) rest

-- how many records surely find room: a line has at most 126 bytes, and the place after the last is still a 64-bit number
unfoldable pub fitting : ℕ → ℕ → ℕ → ℕ
fitting place bytes room = min (min (record_count bytes) (room / 126)) (2 ^ 64 - 1 - place)

-- the records of a piece of input that a run answers
unfoldable pub taken : ℕ → List ℕ → ℕ → List (List ℕ)
taken place s room = first_records (fitting place (length s) room) s

unfoldable pub ran_of : ℕ → List ℕ → List ℕ → ℕ → Ran
ran_of place xs s room = record { records = fitting place (length s) room; bytes = length (lines_of place xs (taken place s room)) }
