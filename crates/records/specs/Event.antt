-- Event records of 12 bytes: their fields, which events are valid, and what reading and writing answer. Assumes nothing.
use Rattle.std.specs.Prelude.{ℕ, Result, Bool, cond, ◌&&◌, ◌||◌, List, [], ◌∷◌, get_or, eqb}
use Rattle.std.specs.declared.result.Result.TheVariants.{Ok, Err}
use Rattle.refusals.specs.declared.Refusal.{Refusal}
use Rattle.refusals.specs.declared.Refusal.TheVariants.{FaultyRecord}
use Rattle.measures.specs.Ranges.{◌to◌, is_in, times, roots, units, premiums, offers}
use Rattle.records.specs.Form.{Form, accepts, event_at, stands, wrote}
use Rattle.records.specs.declared.Event.{Event}
use Rattle.records.specs.declared.Event.TheVariants.{Order, Offer, Lockout}

-- how many bytes a record has
abbrev pub bytes12 : ℕ
bytes12 = 12

-- the widths of kind, time, root, unit, premium, contracts, reset, level, spare
abbrev pub widths : List ℕ
widths = 2 ∷ 27 ∷ 6 ∷ 2 ∷ 27 ∷ 20 ∷ 2 ∷ 1 ∷ 9 ∷ []

-- the values of these fields: a field that the kind does not use is 0
unfoldable pub values_of : Event → List ℕ
values_of (Order time root reset) = 0 ∷ time ∷ root ∷ 0 ∷ 0 ∷ 0 ∷ reset ∷ 0 ∷ 0 ∷ []
values_of (Offer time root unit premium contracts) = 1 ∷ time ∷ root ∷ unit ∷ premium ∷ contracts ∷ 0 ∷ 0 ∷ 0 ∷ []
values_of (Lockout time level root) = 2 ∷ time ∷ root ∷ 0 ∷ 0 ∷ 0 ∷ 0 ∷ level ∷ 0 ∷ []

-- the event that values stand for, by the kind in front: 0 is an order, 1 an offer, 2 a lockout
unfoldable pub event_of : List ℕ → Event
event_of v =
    cond (eqb (get_or v 0 0) 0) (Order (get_or v 1 0) (get_or v 2 0) (get_or v 6 0))
    (cond (eqb (get_or v 0 0) 1) (Offer (get_or v 1 0) (get_or v 2 0) (get_or v 3 0) (get_or v 4 0) (get_or v 5 0))
    (Lockout (get_or v 1 0) (get_or v 7 0) (get_or v 2 0)))

-- every number in its range; a lockout's root is 0 at level 1
unfoldable pub is_valid : Event → Bool
is_valid (Order time root reset) = is_in times time && is_in roots root && is_in (0 to 3) reset
is_valid (Offer time root unit premium contracts) =
    is_in times time && is_in roots root && is_in units unit && is_in premiums premium && is_in offers contracts
is_valid (Lockout time level root) = is_in times time && is_in roots root && is_in (0 to 1) level && (eqb level 0 || eqb root 0)

abbrev pub form : Form Event
form = record { size = bytes12; widths = widths; values = values_of; event = event_of; valid = is_valid }

-- what the values of the fields are read as: they must be just those of a valid event
unfoldable pub event_in : List ℕ → Result Event Refusal
event_in v = cond (stands form v) (Ok (event_of v)) (Err FaultyRecord)

-- what reading bytes answers
unfoldable pub read_of : List ℕ → Result Event Refusal
read_of s = cond (accepts form s) (Ok (event_at form s)) (Err FaultyRecord)

-- what writing an event to n bytes of room answers
abbrev pub wrote_of : Event → ℕ → Result (Unit {0}) Refusal
wrote_of = wrote form
