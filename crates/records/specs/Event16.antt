-- Event records of 16 bytes: their fields, which events are valid, and what reading and writing answer. Assumes nothing.
use Rattle.std.specs.Prelude.{ℕ, Result, Bool, cond, ◌&&◌, ◌||◌, List, [], ◌∷◌, get_or, eqb}
use Rattle.std.specs.declared.result.Result.TheVariants.{Ok, Err}
use Rattle.refusals.specs.declared.Refusal.{Refusal}
use Rattle.refusals.specs.declared.Refusal.TheVariants.{FaultyRecord}
use Rattle.measures.specs.Ranges.{Range, ◌to◌, is_in, roots, units, premiums, offers, identities, reports_asked}
use Rattle.records.specs.Form.{Form, accepts, event_at, stands, wrote}
use Rattle.records.specs.declared.Event16.{Event16}
use Rattle.records.specs.declared.Event16.TheVariants.{Order, Offer, Lockout, Sending, Report, Closing}

-- how many bytes a record has
abbrev pub bytes16 : ℕ
bytes16 = 16

-- the widths of kind, time, root, unit, premium, contracts, reset, level, identity, reports, spare; a bit that gets a name later is taken from the
-- top of the spare: its width stands before what is left of the spare, and its value so in the rows of `values16_of`
abbrev pub widths16 : List ℕ
widths16 = 4 ∷ 37 ∷ 6 ∷ 2 ∷ 27 ∷ 20 ∷ 4 ∷ 1 ∷ 16 ∷ 5 ∷ 6 ∷ []

-- the values of these fields: a field that the kind does not use is 0
unfoldable pub values16_of : Event16 → List ℕ
values16_of (Order time root reset) = 0 ∷ time ∷ root ∷ 0 ∷ 0 ∷ 0 ∷ reset ∷ 0 ∷ 0 ∷ 0 ∷ 0 ∷ []
values16_of (Offer time root unit premium contracts) = 1 ∷ time ∷ root ∷ unit ∷ premium ∷ contracts ∷ 0 ∷ 0 ∷ 0 ∷ 0 ∷ 0 ∷ []
values16_of (Lockout time level root) = 2 ∷ time ∷ root ∷ 0 ∷ 0 ∷ 0 ∷ 0 ∷ level ∷ 0 ∷ 0 ∷ 0 ∷ []
values16_of (Sending time root unit premium contracts identity reports) =
    3 ∷ time ∷ root ∷ unit ∷ premium ∷ contracts ∷ 0 ∷ 0 ∷ identity ∷ reports ∷ 0 ∷ []
values16_of (Report time identity contracts) = 4 ∷ time ∷ 0 ∷ 0 ∷ 0 ∷ contracts ∷ 0 ∷ 0 ∷ identity ∷ 0 ∷ 0 ∷ []
values16_of (Closing time identity) = 5 ∷ time ∷ 0 ∷ 0 ∷ 0 ∷ 0 ∷ 0 ∷ 0 ∷ identity ∷ 0 ∷ 0 ∷ []

-- the event that values stand for, by the kind in front: 3 is an order sent away, 4 a report of one, 5 its closing
unfoldable pub away_event_of : List ℕ → Event16
away_event_of v =
    cond (eqb (get_or v 0 0) 3) (Sending (get_or v 1 0) (get_or v 2 0) (get_or v 3 0) (get_or v 4 0) (get_or v 5 0) (get_or v 8 0) (get_or v 9 0))
    (cond (eqb (get_or v 0 0) 4) (Report (get_or v 1 0) (get_or v 8 0) (get_or v 5 0))
    (Closing (get_or v 1 0) (get_or v 8 0)))

-- and 0 is an order, 1 an offer, 2 a lockout
unfoldable pub event16_of : List ℕ → Event16
event16_of v =
    cond (eqb (get_or v 0 0) 0) (Order (get_or v 1 0) (get_or v 2 0) (get_or v 6 0))
    (cond (eqb (get_or v 0 0) 1) (Offer (get_or v 1 0) (get_or v 2 0) (get_or v 3 0) (get_or v 4 0) (get_or v 5 0))
    (cond (eqb (get_or v 0 0) 2) (Lockout (get_or v 1 0) (get_or v 7 0) (get_or v 2 0))
    (away_event_of v)))

-- microseconds of the day
abbrev pub stamps : Range
stamps = 0 to 86_399_999_999

-- every number in its range; a lockout's root is 0 at level 1
unfoldable pub is_valid16 : Event16 → Bool
is_valid16 (Order time root reset) = is_in stamps time && is_in roots root && is_in (0 to 6) reset
is_valid16 (Offer time root unit premium contracts) =
    is_in stamps time && is_in roots root && is_in units unit && is_in premiums premium && is_in offers contracts
is_valid16 (Lockout time level root) = is_in stamps time && is_in roots root && is_in (0 to 1) level && (eqb level 0 || eqb root 0)
is_valid16 (Sending time root unit premium contracts identity reports) =
    is_in stamps time && is_in roots root && is_in units unit && is_in premiums premium && is_in offers contracts
    && is_in identities identity && is_in reports_asked reports
is_valid16 (Report time identity contracts) = is_in stamps time && is_in identities identity && is_in offers contracts
is_valid16 (Closing time identity) = is_in stamps time && is_in identities identity

abbrev pub form16 : Form Event16
form16 = record { size = bytes16; widths = widths16; values = values16_of; event = event16_of; valid = is_valid16 }

-- what the values of the fields are read as: they must be just those of a valid event
unfoldable pub event16_in : List ℕ → Result Event16 Refusal
event16_in v = cond (stands form16 v) (Ok (event16_of v)) (Err FaultyRecord)

-- what reading bytes answers
unfoldable pub read16_of : List ℕ → Result Event16 Refusal
read16_of s = cond (accepts form16 s) (Ok (event_at form16 s)) (Err FaultyRecord)

-- what writing an event to n bytes of room answers
abbrev pub wrote16_of : Event16 → ℕ → Result (Unit {0}) Refusal
wrote16_of = wrote form16
