-- A form of record: how many bytes, which fields, how an event of type E stands in them, and which events are valid. Assumes nothing.
use Rattle.std.specs.Prelude.{ℕ, Result, Bool, cond, ◌&&◌, List, ◌++◌, length, drop, eqb, leb}
use Rattle.std.specs.declared.result.Result.TheVariants.{Ok, Err}
use Rattle.refusals.specs.declared.Refusal.{Refusal}
use Rattle.refusals.specs.declared.Refusal.TheVariants.{NoRoom, FaultyRecord}
use Rattle.laws.specs.Lists.{same}
use Rattle.bits.specs.Fields.{fields_of, bytes_of}

pub record Form (E : Type 0) : Type 0 where
  -- the number of bytes, and the widths of the fields in bits
  pub size : ℕ
  pub widths : List ℕ
  -- the values of an event's fields, and the event that values stand for
  pub values : E → List ℕ
  pub event : List ℕ → E
  -- whether every number of an event is in its range
  pub valid : E → Bool

module _ {E : Type 0} (F : Form E) where
  -- the bytes that hold an event
  unfoldable pub record_of : E → List ℕ
  record_of e = bytes_of F.size F.widths (F.values e)

  -- the event that bytes hold
  unfoldable pub event_at : List ℕ → E
  event_at s = F.event (fields_of F.widths s)

  -- values are an event's if they are just those of the event that they stand for, and that event is valid
  unfoldable pub stands : List ℕ → Bool
  stands v = same v (F.values (F.event v)) && F.valid (F.event v)

  -- bytes are a record if they are as many as the form has and their fields are an event's
  unfoldable pub accepts : List ℕ → Bool
  accepts s = eqb (length s) F.size && stands (fields_of F.widths s)

  -- what the values of the fields are read as: they must be just those of a valid event
  unfoldable pub read_values : List ℕ → Result E Refusal
  read_values v = cond (stands v) (Ok (F.event v)) (Err FaultyRecord)

  -- the fields of bytes that are a record
  unfoldable pub read_fields : List ℕ → Result (List ℕ) Refusal
  read_fields s = cond (accepts s) (Ok (fields_of F.widths s)) (Err FaultyRecord)

  -- what the room holds after e was written: the record and the rest of the room; or the room as it was, where e is not valid or does not fit
  unfoldable pub written : E → List ℕ → List ℕ
  written e room = cond (F.valid e && leb F.size (length room)) (record_of e ++ drop F.size room) room

  -- what writing e to n bytes of room answers
  unfoldable pub wrote : E → ℕ → Result (Unit {0}) Refusal
  wrote e n = cond (F.valid e) (cond (leb F.size n) (Ok tt) (Err NoRoom)) (Err FaultyRecord)

  -- the same for the values of fields: what writing them answers, and what the room then holds
  unfoldable pub wrote_values : List ℕ → ℕ → Result (Unit {0}) Refusal
  wrote_values v n = cond (stands v) (cond (leb F.size n) (Ok tt) (Err NoRoom)) (Err FaultyRecord)

  unfoldable pub written_values : List ℕ → List ℕ → List ℕ
  written_values v room = cond (stands v && leb F.size (length room)) (bytes_of F.size F.widths v ++ drop F.size room) room
