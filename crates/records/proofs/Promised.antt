-- What is promised of records, as specs/Promised says it. Assumes nothing.
use Prim.Native.Nat.{ℕ, ◌≤◌, ◌<◌}
use mathlib.Core.Path.{◌≡◌, refl, ap, ◌∙◌}
use mathlib.Core.Bool.{Bool, true, false}
use mathlib.Core.List.{List}
use native.Mathlib.Omega.{arith}
use lib.ListN.{length, take, drop}
use lib.Dec.{leb}
use lib.Seq.{take_at, drop_at}
use borrow.Author.Tests.{le-leb, lt-leb}
use Rattle.bits.specs.Fields.{fields_of}
use Rattle.bits.proofs.Packing.{length-bytes}
use Rattle.records.specs.Form.{Form, accepts, record_of, wrote, written}
use Rattle.refusals.specs.Numbers.{refused_with}
use Rattle.records.specs.Event.{widths, form}
use Rattle.records.specs.Event16.{widths16, form16}
use Rattle.records.specs.Moves.{Move, widening, narrowing, moving_of, moved_record, moved, widened, narrowed, moves_back}
use Rattle.records.specs.Promised.{OneRecord, Written, Moved, RecordsPromised}
use Rattle.records.specs.Inner.Lawful.{Lawful}
use Rattle.records.proofs.Round.{fields-are, read_again_lem, write_again, read-values}
use Rattle.records.proofs.Forms.{lawful, lawful16}
use Rattle.records.proofs.Across.{widened-back}
use Rattle.records.proofs.Moved.{narrowed-holds}
use Rattle.records.proofs.Tabled.{record-by-table}
use Rattle.records.proofs.Promises16.{moved-record, there_and_back_lem, back-and-there}

one : {E : Type 0} (F : Form E) → Lawful F → OneRecord F
one F w = record { read_again = read_again_lem F w; written_again = write_again F w }

module _ {E : Type 0} (F : Form E) (e : E) where
  w-faulty : (n : ℕ) → F.valid e ≡ false → refused_with (wrote F e n) ≡ 16
  unfolding wrote
  w-faulty n h = rw h

  w-short : (n : ℕ) → F.valid e ≡ true → n < F.size → refused_with (wrote F e n) ≡ 1
  unfolding wrote
  w-short n h l = rw (h, lt-leb _ _ l)

  w-done : (n : ℕ) → F.valid e ≡ true → F.size ≤ n → refused_with (wrote F e n) ≡ 0
  unfolding wrote
  w-done n h l = rw (h, le-leb _ _ l)

  w_kept : (room : List ℕ) → 0 < refused_with (wrote F e (length room)) → written F e room ≡ room
  unfolding wrote written
  w_kept room h = go (F.valid e) (leb F.size (length room)) refl refl
    where
      go : (x y : Bool) → F.valid e ≡ x → leb F.size (length room) ≡ y → written F e room ≡ room
      go false y p q = rw p
      go true false p q = rw (p, q)
      go true true p q = let z : 0 < 0 = rw (p, q) at h in absurd (omega arith)

  w-front : (room : List ℕ) → refused_with (wrote F e (length room)) ≡ 0 → take F.size (written F e room) ≡ record_of F e
  unfolding wrote written record_of
  w-front room h = go (F.valid e) (leb F.size (length room)) refl refl
    where
      go : (x y : Bool) → F.valid e ≡ x → leb F.size (length room) ≡ y → take F.size (written F e room) ≡ record_of F e
      go false y p q = let z : ◌≡◌ {A = ℕ} 16 0 = rw p at h in absurd (omega arith)
      go true false p q = let z : ◌≡◌ {A = ℕ} 1 0 = rw (p, q) at h in absurd (omega arith)
      go true true p q = rw (p, q) (take_at (record_of F e) (drop F.size room) F.size (length-bytes F.size F.widths (F.values e)))

  w-rest : (room : List ℕ) → drop F.size (written F e room) ≡ drop F.size room
  unfolding written record_of
  w-rest room = go (F.valid e) (leb F.size (length room)) refl refl
    where
      go : (x y : Bool) → F.valid e ≡ x → leb F.size (length room) ≡ y → drop F.size (written F e room) ≡ drop F.size room
      go false y p q = rw p
      go true false p q = rw (p, q)
      go true true p q = rw (p, q) (drop_at (record_of F e) (drop F.size room) F.size (length-bytes F.size F.widths (F.values e)))

writes : {E : Type 0} (F : Form E) → Written F
writes F = record {
  faulty = w-faulty F;
  short = w-short F;
  done = w-done F;
  kept = w_kept F;
  front = w-front F;
  rest = w-rest F;
}

module _ {E X : Type 0} (M : Move E X) (s : List ℕ) where
  abbrev reads : Bool
  reads = accepts M.from s

  abbrev fits : Bool
  fits = M.fits (fields_of M.from.widths s)

  m-faulty : (n : ℕ) → reads ≡ false → refused_with (moving_of M s n) ≡ 16
  unfolding moving_of
  m-faulty n p = rw p

  m-unfit : (n : ℕ) → reads ≡ true → fits ≡ false → refused_with (moving_of M s n) ≡ 20
  unfolding moving_of
  m-unfit n p q = rw (p, q)

  m-short : (n : ℕ) → reads ≡ true → fits ≡ true → n < M.to.size → refused_with (moving_of M s n) ≡ 1
  unfolding moving_of
  m-short n p q l = rw (p, q, lt-leb _ _ l)

  m-done : (n : ℕ) → reads ≡ true → fits ≡ true → M.to.size ≤ n → refused_with (moving_of M s n) ≡ 0
  unfolding moving_of
  m-done n p q l = rw (p, q, le-leb _ _ l)

  m-kept : (room : List ℕ) → 0 < refused_with (moving_of M s (length room)) → moved M s room ≡ room
  unfolding moving_of moved
  m-kept room h = go reads fits (leb M.to.size (length room)) refl refl refl
    where
      go : (x y z : Bool) → reads ≡ x → fits ≡ y → leb M.to.size (length room) ≡ z → moved M s room ≡ room
      go false y z p q r = rw p
      go true false z p q r = rw (p, q)
      go true true false p q r = rw (p, q, r)
      go true true true p q r = let w : 0 < 0 = rw (p, q, r) at h in absurd (omega arith)

  m-front : (room : List ℕ) → refused_with (moving_of M s (length room)) ≡ 0 → take M.to.size (moved M s room) ≡ moved_record M s
  unfolding moving_of moved moved_record
  m-front room h = go reads fits (leb M.to.size (length room)) refl refl refl
    where
      go : (x y z : Bool) → reads ≡ x → fits ≡ y → leb M.to.size (length room) ≡ z → take M.to.size (moved M s room) ≡ moved_record M s
      go false y z p q r = let w : ◌≡◌ {A = ℕ} 16 0 = rw p at h in absurd (omega arith)
      go true false z p q r = let w : ◌≡◌ {A = ℕ} 20 0 = rw (p, q) at h in absurd (omega arith)
      go true true false p q r = let w : ◌≡◌ {A = ℕ} 1 0 = rw (p, q, r) at h in absurd (omega arith)
      go true true true p q r = rw (p, q, r) (take_at (moved_record M s) (drop M.to.size room) M.to.size (length-bytes M.to.size M.to.widths (M.change (fields_of M.from.widths s))))

  m-rest : (room : List ℕ) → drop M.to.size (moved M s room) ≡ drop M.to.size room
  unfolding moved moved_record
  m-rest room = go reads fits (leb M.to.size (length room)) refl refl refl
    where
      go : (x y z : Bool) → reads ≡ x → fits ≡ y → leb M.to.size (length room) ≡ z → drop M.to.size (moved M s room) ≡ drop M.to.size room
      go false y z p q r = rw p
      go true false z p q r = rw (p, q)
      go true true false p q r = rw (p, q, r)
      go true true true p q r = rw (p, q, r) (drop_at (moved_record M s) (drop M.to.size room) M.to.size (length-bytes M.to.size M.to.widths (M.change (fields_of M.from.widths s))))

moves : {E X : Type 0} (M : Move E X) → Moved M
moves M = record {
  faulty = m-faulty M;
  unfit = m-unfit M;
  short = m-short M;
  done = m-done M;
  kept = m-kept M;
  front = m-front M;
  rest = m-rest M;
}

-- an old record that was moved moves back
widened-moves : (s : List ℕ) → accepts form s ≡ true → moves_back (fields_of widths16 (moved_record widening s)) ≡ true
widened-moves s a =
    let f = fields-are form s a in
    ap moves_back (moved-record s a).1 ∙ ap (λ (v : List ℕ). moves_back (widened v)) f.0 ∙ (widened-back _ f.1).0

moved_back_lem : (t : List ℕ) → accepts form16 t ≡ true → moves_back (fields_of widths16 t) ≡ true
    → (accepts form (moved_record narrowing t) ≡ true) × (fields_of widths (moved_record narrowing t) ≡ narrowed (fields_of widths16 t))
unfolding moved_record
moved_back_lem t a k = read-values form lawful (narrowed (fields_of widths16 t)) (narrowed-holds t a k)

pub records-promised : RecordsPromised
records-promised = record {
  old = one form lawful;
  new = one form16 lawful16;
  old_written = writes form;
  new_written = writes form16;
  refused = record-by-table;
  widens = moves widening;
  narrows = moves narrowing;
  times1000 = moved-record;
  moved_back = moved_back_lem;
  there_and_back = λ s b a. (widened-moves s a, (there_and_back_lem s b a).1);
  back_and_there = λ t b a k. (back-and-there t b a k).1;
}
