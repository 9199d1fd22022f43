-- What is promised of event records in both forms, sentence by sentence. Assumes nothing.
use Rattle.std.specs.Prelude.{ℕ, ◌≤◌, ◌<◌, ◌≡◌, true, false, List, length, get_or, take, drop}
use Rattle.refusals.specs.Numbers.{refused_with}
use Rattle.bits.specs.Fields.{fields_of}
use Rattle.records.specs.Form.{Form, accepts, event_at, record_of, wrote, written}
use Rattle.records.specs.Event.{widths, form}
use Rattle.records.specs.Event16.{widths16, form16}
use Rattle.records.specs.Kinds.{is_record16}
use Rattle.records.specs.Moves.{Move, widening, narrowing, moving_of, moved_record, moved, widened, narrowed, moves_back}

-- every number is a byte
abbrev pub Bytes : List ℕ → Type 0
Bytes s = (i : ℕ) → get_or s i 0 < 256

module _ {E : Type 0} (F : Form E) where
  -- each event has one record: reading after writing and writing after reading change nothing
  pub record OneRecord : Type 0 where
    pub read_again : (e : E) → F.valid e ≡ true → (accepts F (record_of F e) ≡ true) × (event_at F (record_of F e) ≡ e)
    pub written_again : (s : List ℕ) → Bytes s → accepts F s ≡ true → (F.valid (event_at F s) ≡ true) × (record_of F (event_at F s) ≡ s)

  -- writing is refused with 16 if the event is not valid, then with 1 if the room is short; a refusal writes nothing, and the bytes past the record
  -- are untouched
  pub record Written : Type 0 where
    pub faulty : (e : E) (n : ℕ) → F.valid e ≡ false → refused_with (wrote F e n) ≡ 16
    pub short : (e : E) (n : ℕ) → F.valid e ≡ true → n < F.size → refused_with (wrote F e n) ≡ 1
    pub done : (e : E) (n : ℕ) → F.valid e ≡ true → F.size ≤ n → refused_with (wrote F e n) ≡ 0
    pub kept : (e : E) (room : List ℕ) → 0 < refused_with (wrote F e (length room)) → written F e room ≡ room
    pub front : (e : E) (room : List ℕ) → refused_with (wrote F e (length room)) ≡ 0 → take F.size (written F e room) ≡ record_of F e
    pub rest : (e : E) (room : List ℕ) → drop F.size (written F e room) ≡ drop F.size room

module _ {E X : Type 0} (M : Move E X) where
  -- moving is refused with 16 for bytes that their own reader refuses, then with 20 for a record that does not fit the other form, then with 1 if
  -- the room is short; a refusal writes nothing, what is written is a record of the other form, and the bytes past it are untouched
  pub record Moved : Type 0 where
    pub faulty : (s : List ℕ) (n : ℕ) → accepts M.from s ≡ false → refused_with (moving_of M s n) ≡ 16
    pub unfit : (s : List ℕ) (n : ℕ) → accepts M.from s ≡ true → M.fits (fields_of M.from.widths s) ≡ false → refused_with (moving_of M s n) ≡ 20
    pub short :
        (s : List ℕ) (n : ℕ) → accepts M.from s ≡ true → M.fits (fields_of M.from.widths s) ≡ true → n < M.to.size
        → refused_with (moving_of M s n) ≡ 1
    pub done :
        (s : List ℕ) (n : ℕ) → accepts M.from s ≡ true → M.fits (fields_of M.from.widths s) ≡ true → M.to.size ≤ n
        → refused_with (moving_of M s n) ≡ 0
    pub kept : (s room : List ℕ) → 0 < refused_with (moving_of M s (length room)) → moved M s room ≡ room
    pub front : (s room : List ℕ) → refused_with (moving_of M s (length room)) ≡ 0 → take M.to.size (moved M s room) ≡ moved_record M s
    pub rest : (s room : List ℕ) → drop M.to.size (moved M s room) ≡ drop M.to.size room

pub record RecordsPromised : Type 0 where
  pub old : OneRecord form
  pub new : OneRecord form16
  pub old_written : Written form
  pub new_written : Written form16
  -- 16 exactly where the table of the kinds says that bytes are no record
  pub refused : (s : List ℕ) → accepts form16 s ≡ is_record16 s
  pub widens : Moved widening
  pub narrows : Moved narrowing
  -- every old record moves, by times 1000
  pub times1000 :
      (s : List ℕ) → accepts form s ≡ true
      → (accepts form16 (moved_record widening s) ≡ true) × (fields_of widths16 (moved_record widening s) ≡ widened (fields_of widths s))
  -- a new record that moves back is moved to the old record with its fields
  pub moved_back :
      (t : List ℕ) → accepts form16 t ≡ true → moves_back (fields_of widths16 t) ≡ true
      → (accepts form (moved_record narrowing t) ≡ true) × (fields_of widths (moved_record narrowing t) ≡ narrowed (fields_of widths16 t))
  -- there and back gives the same 12 bytes, and back and there the same 16
  pub there_and_back :
      (s : List ℕ) → Bytes s → accepts form s ≡ true
      → (moves_back (fields_of widths16 (moved_record widening s)) ≡ true) × (moved_record narrowing (moved_record widening s) ≡ s)
  pub back_and_there :
      (t : List ℕ) → Bytes t → accepts form16 t ≡ true → moves_back (fields_of widths16 t) ≡ true
      → moved_record widening (moved_record narrowing t) ≡ t
