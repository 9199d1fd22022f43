-- The cases of moving a record, in either direction. Assumes nothing.
use Prim.Native.Nat.{ℕ, ◌≤◌, ◌<◌}
use mathlib.Core.Path.{◌≡◌, refl, sym, ap, ◌∙◌, subst}
use mathlib.Core.Bool.{true, false}
use mathlib.Core.List.{List, ◌++◌}
use lib.ListN.{length, get_or, drop}
use borrow.Author.Tests.{le-leb, lt-leb}
use Rattle.bits.specs.Fields.{fields_of, bytes_of}
use Rattle.records.specs.Form.{accepts, event_at, stands, read_fields, wrote_values, written_values}
use Rattle.std.specs.declared.result.Result.TheVariants.{Ok, Err}
use Rattle.refusals.specs.declared.Refusal.{Refusal}
use Rattle.refusals.specs.declared.Refusal.TheVariants.{Unfit}
use Rattle.records.specs.Event.{widths, event_of, form}
use Rattle.records.specs.Event16.{widths16, values16_of, is_valid16, form16}
use Rattle.records.specs.Moves.{Move, moving_of, moved_record, moved, widened, narrowed, moves_back}
use Rattle.records.proofs.Round.{stands-is, fields-are, fields-read, fields-refused}
use Rattle.records.proofs.Across.{time-most, widened-stands, narrowed-stands}

module _ {E X : Type 0} (M : Move E X) (s room : List ℕ) where
  pub move-refused : (r : Refusal) → Err r ≡ read_fields M.from s → (Err r ≡ moving_of M s (length room)) × (room ≡ moved M s room)
  unfolding moving_of moved
  move-refused r h = let p = fields-refused M.from s r h in rw (p.0, p.1) (refl, refl)

  pub move-unfit : (v : List ℕ) → Ok v ≡ read_fields M.from s → M.fits v ≡ false → (Err Unfit ≡ moving_of M s (length room)) × (room ≡ moved M s room)
  unfolding moving_of moved
  move-unfit v h f =
      let p = fields-read M.from s v h in
      let fits : M.fits (fields_of M.from.widths s) ≡ false = sym (ap M.fits p.1) ∙ f in
      rw (p.0, fits) (refl, refl)

  pub move-put : (v : List ℕ) → Ok v ≡ read_fields M.from s → M.fits v ≡ true → stands M.to (M.change v) ≡ true
      → (wrote_values M.to (M.change v) (length room) ≡ moving_of M s (length room)) × (written_values M.to (M.change v) room ≡ moved M s room)
  unfolding moving_of moved moved_record wrote_values written_values
  move-put v h f t =
      let p = fields-read M.from s v h in
      let fits : M.fits (fields_of M.from.widths s) ≡ true = sym (ap M.fits p.1) ∙ f in
      let stand : stands M.to (M.change (fields_of M.from.widths s)) ≡ true = sym (ap (λ (x : List ℕ). stands M.to (M.change x)) p.1) ∙ t in
      rw (p.1, p.0, fits, stand) (refl, refl)

pub fields16-are : (s : List ℕ) → accepts form16 s ≡ true → (fields_of widths16 s ≡ values16_of (event_at form16 s)) × (is_valid16 (event_at form16 s) ≡ true)
fields16-are = fields-are form16

-- the fields of a moved record are an event's in the other form
pub widened-holds : (s : List ℕ) → accepts form s ≡ true → stands form16 (widened (fields_of widths s)) ≡ true
widened-holds s a = let f = fields-are form s a in ap (λ (v : List ℕ). stands form16 (widened v)) f.0 ∙ widened-stands (event_at form s) f.1

pub narrowed-holds : (s : List ℕ) → accepts form16 s ≡ true → moves_back (fields_of widths16 s) ≡ true → stands form (narrowed (fields_of widths16 s)) ≡ true
narrowed-holds s a b =
    let f = fields16-are s a in
    ap (λ (v : List ℕ). stands form (narrowed v)) f.0 ∙ narrowed-stands (event_at form16 s) f.1 (sym (ap moves_back f.0) ∙ b)

-- the same of fields that are read
pub widened-put : (s v : List ℕ) → Ok v ≡ read_fields form s → stands form16 (widened v) ≡ true
widened-put s v h = let p = fields-read form s v h in ap (λ (x : List ℕ). stands form16 (widened x)) p.1 ∙ widened-holds s p.0

pub narrowed-put : (s v : List ℕ) → Ok v ≡ read_fields form16 s → moves_back v ≡ true → stands form (narrowed v) ≡ true
narrowed-put s v h b =
    let p = fields-read form16 s v h in
    ap (λ (x : List ℕ). stands form (narrowed x)) p.1 ∙ narrowed-holds s p.0 (sym (ap moves_back p.1) ∙ b)

-- an old record's time is one that can be moved
pub time-moves : (v : List ℕ) → stands form v ≡ true → get_or v 1 0 ≤ 86_399_999
time-moves v h = let p = stands-is form v h in subst (λ (xs : List ℕ). get_or xs 1 0 ≤ 86_399_999) (sym p.0) (time-most (event_of v) p.1)
