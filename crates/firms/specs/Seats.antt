-- The state: two seats, each empty or with what one firm sees, its part and its own entries of the log. Assumes nothing.
use Rattle.std.specs.Prelude.{ℕ, ◌-◌, max, Bool, true, false, cond, List, [], ◌++◌, map}
use Rattle.machine.specs.declared.Entry.{Entry}
use Rattle.machine.specs.State.{State, rules_in}
use Rattle.machine.specs.Entries.{recent}
use Rattle.machine.specs.Offers.{longest}
use Rattle.machine.specs.Refusals.{used}
use Rattle.machine.specs.Judge.{log_places}

-- a seat: empty, or taken by a firm that is armed
pub data Seat : Type 0 where
  empty : Seat
  taken : State → Seat

-- the state: the seat of firm 0 and that of firm 1
pub record Seats : Type 0 where
  pub first : Seat
  pub second : Seat

-- no firm is armed
unfoldable pub vacant : Seats
vacant = record { first = empty; second = empty }

-- the seats the other way round
unfoldable pub turned : Seats → Seats
turned u = record { first = u.second; second = u.first }

-- the state as a firm sees it, its own seat first: false is firm 0, true is firm 1
unfoldable pub facing : Bool → Seats → Seats
facing false u = u
facing true u = turned u

-- the seat of a firm
unfoldable pub seat_of : Bool → Seats → Seat
seat_of false u = u.first
seat_of true u = u.second

-- the entries of the firm in a seat
unfoldable pub entries_in : Seat → List Entry
entries_in empty = []
entries_in (taken s) = s.log

-- the state's one log: its entries name their firm, and each firm's stand in order of its time
pub record Owned : Type 0 where
  pub firm : Bool
  pub entry : Entry

unfoldable pub owned : Bool → Entry → Owned
owned firm e = record { firm = firm; entry = e }

unfoldable pub log_of : Seats → List Owned
log_of u = map (owned false) (entries_in u.first) ++ map (owned true) (entries_in u.second)

-- the use of a seat, at its firm's clock
unfoldable pub use_of : Seat → ℕ
use_of empty = 0
use_of (taken s) = used s s.part.clock

-- the places that are each firm's own
abbrev pub own_places : ℕ
own_places = 192

-- the room that a firm leaves to the other: its use is read as 192 if lower
unfoldable pub room_beside : Seat → ℕ
room_beside other = log_places - max own_places (use_of other)

-- a state without the entries that its longest window has passed at its own clock
unfoldable pub trimmed : State → State
trimmed s = record { part = s.part; log = recent (longest (rules_in s)) s.part.clock s.log }

unfoldable pub trimmed_seat : Seat → Seat
trimmed_seat empty = empty
trimmed_seat (taken s) = taken (trimmed s)

-- a seat, trimmed if an entry joins the log
abbrev pub left_by : Bool → Seat → Seat
left_by joined seat = cond joined (trimmed_seat seat) seat
