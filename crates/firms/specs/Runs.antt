-- What is done on a state, one thing after the other, and each firm's day in it. Assumes nothing.
use Rattle.std.specs.Prelude.{ℕ, ◌≡◌, ◌⊎◌, Bool, true, false, not, cond, List, [], ◌∷◌}
use Rattle.rules.specs.Allowance.{All}
use Rattle.machine.specs.Answer.{Answer, Refused}
use Rattle.machine.specs.State.{Profile}
use Rattle.machine.specs.Calls.{Call}
use Rattle.demand.specs.Run.{Event}
use Rattle.firms.specs.Seats.{Seat, Seats, vacant, facing}
use Rattle.firms.specs.Doings.{Doing, arm, call, clear, Reply, refused, done, answered, Beside, beside_of, Outcome, at_seat, outcome_of, reply_to, after_doing}

-- something for a firm, or the whole state is cleared
pub data Asked : Type 0 where
  of : Bool → Doing → Asked
  clear_all : Asked

unfoldable pub after_asked : Seats → Asked → Seats
after_asked u (of firm doing) = after_doing firm u doing
after_asked u clear_all = vacant

-- the state after these, the first of them first
unfoldable pub seats_after : Seats → List Asked → Seats
seats_after u [] = u
seats_after u (x ∷ xs) = seats_after (after_asked u x) xs

-- the firms are the same
unfoldable pub is_same : Bool → Bool → Bool
is_same true firm = firm
is_same false firm = not firm

-- ---- a firm's day: its calls and their answers since it was armed, the newest first, and the profile it was armed with

pub record Day : Type 0 where
  pub profile : Profile
  pub events : List Event

-- before anything is done
unfoldable pub no_day : Day
no_day = record { profile = record { firm = 0; roots = []; rules = [] }; events = [] }

unfoldable pub day_by : Doing → Reply → Day → Day
day_by (arm p) done day = record { profile = p; events = [] }
day_by (arm p) (refused n) day = day
day_by (arm p) (answered a) day = day
day_by (call c) (answered a) day = record { profile = day.profile; events = record { call = c; answer = a } ∷ day.events }
day_by (call c) (refused n) day = day
day_by (call c) done day = day
day_by clear reply day = day

unfoldable pub day_after : Bool → Seats → Asked → Day → Day
day_after firm u (of other doing) day = cond (is_same firm other) (day_by doing (reply_to other u doing) day) day
day_after firm u clear_all day = day

unfoldable pub day_of : Bool → Seats → List Asked → Day → Day
day_of firm u [] day = day
day_of firm u (x ∷ xs) day = day_of firm (after_asked u x) xs (day_after firm u x day)

-- no call of these was refused with this number
unfoldable pub NeverRefused : ℕ → List Event → Type 0
NeverRefused n events = All (λ event. event.answer ≡ Refused n → ⊥) events

-- ---- a firm's own things among those of both

-- what a firm does and is answered, the first first
unfoldable pub doings_of : Bool → List (Bool × Doing) → List Doing
doings_of firm [] = []
doings_of firm (x ∷ xs) = cond (is_same firm x.0) (x.1 ∷ doings_of firm xs) (doings_of firm xs)

unfoldable pub replies_to : Bool → Seats → List (Bool × Doing) → List Reply
replies_to firm u [] = []
replies_to firm u (x ∷ xs) =
    cond (is_same firm x.0) (reply_to x.0 u x.1 ∷ replies_to firm (after_doing x.0 u x.1) xs)
    (replies_to firm (after_doing x.0 u x.1) xs)

-- the three ways in which one firm may be told of the other: 7 at arming, 2 at clearing, 15
unfoldable pub Excepted : Reply → Type 0
Excepted reply = (reply ≡ refused 7) ⊎ ((reply ≡ refused 2) ⊎ (reply ≡ answered (Refused 15)))

abbrev pub Plain : Reply → Type 0
Plain reply = Excepted reply → ⊥
