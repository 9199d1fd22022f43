-- Records moved from one form to the other: what moving answers, and what it leaves in the room. Assumes nothing.
use Rattle.std.specs.Prelude.{ℕ, Result, ◌*◌, ◌/◌, ◌%◌, Bool, true, cond, ◌&&◌, List, [], ◌∷◌, ◌++◌, length, get_or, drop, leb, eqb}
use Rattle.std.specs.declared.result.Result.TheVariants.{Ok, Err}
use Rattle.refusals.specs.declared.Refusal.{Refusal}
use Rattle.refusals.specs.declared.Refusal.TheVariants.{NoRoom, FaultyRecord, Unfit}
use Rattle.bits.specs.Fields.{fields_of, bytes_of}
use Rattle.records.specs.Form.{Form, accepts}
use Rattle.records.specs.Event.{form}
use Rattle.records.specs.Event16.{form16}
use Rattle.records.specs.declared.Event.{Event}
use Rattle.records.specs.declared.Event16.{Event16}

-- from one form to another: which fields the other form has a record for, and the fields of that record
pub record Move (E X : Type 0) : Type 0 where
  pub from : Form E
  pub to : Form X
  pub fits : List ℕ → Bool
  pub change : List ℕ → List ℕ

module _ {E X : Type 0} (M : Move E X) where
  -- what moving bytes to n bytes of room answers: that they are no record, that the other form has none for it, that the room is short, or done
  unfoldable pub moving_of : List ℕ → ℕ → Result (Unit {0}) Refusal
  moving_of s n =
      cond (accepts M.from s)
      (cond (M.fits (fields_of M.from.widths s)) (cond (leb M.to.size n) (Ok tt) (Err NoRoom)) (Err Unfit))
      (Err FaultyRecord)

  -- the bytes of the moved record
  unfoldable pub moved_record : List ℕ → List ℕ
  moved_record s = bytes_of M.to.size M.to.widths (M.change (fields_of M.from.widths s))

  -- what the room holds afterwards: the moved record and the rest of the room; or the room as it was, if moving was refused
  unfoldable pub moved : List ℕ → List ℕ → List ℕ
  moved s room =
      cond (accepts M.from s && (M.fits (fields_of M.from.widths s) && leb M.to.size (length room)))
      (moved_record s ++ drop M.to.size room) room

-- an old record's fields in the new form: the time by times 1000, and 0 where the old form has no field
unfoldable pub widened : List ℕ → List ℕ
widened v =
    get_or v 0 0 ∷ get_or v 1 0 * 1000 ∷ get_or v 2 0 ∷ get_or v 3 0 ∷ get_or v 4 0 ∷ get_or v 5 0 ∷ get_or v 6 0 ∷ get_or v 7 0 ∷ 0 ∷ 0 ∷ 0 ∷ []

-- a new record moves back if its kind is at most 2, its time a multiple of 1000 and its reset at most 3; a bit that is named later is asked to be 0 here
unfoldable pub moves_back : List ℕ → Bool
moves_back v = leb (get_or v 0 0) 2 && eqb (get_or v 1 0 % 1000) 0 && leb (get_or v 6 0) 3

-- its fields in the old form
unfoldable pub narrowed : List ℕ → List ℕ
narrowed v =
    get_or v 0 0 ∷ get_or v 1 0 / 1000 ∷ get_or v 2 0 ∷ get_or v 3 0 ∷ get_or v 4 0 ∷ get_or v 5 0 ∷ get_or v 6 0 ∷ get_or v 7 0 ∷ 0 ∷ []

abbrev pub widening : Move Event Event16
widening = record { from = form; to = form16; fits = λ v. true; change = widened }

abbrev pub narrowing : Move Event16 Event
narrowing = record { from = form16; to = form; fits = moves_back; change = narrowed }
