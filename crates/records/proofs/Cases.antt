-- The row of a record, in each form. Assumes nothing.
use Prim.Native.Nat.{ℕ, zero, suc, ◌+◌, ◌≤◌}
use mathlib.Core.Path.{◌≡◌, refl, sym, ap, ◌∙◌}
use mathlib.Core.Bool.{Bool, true, false, false≢true}
use mathlib.Core.List.{List, [], ◌∷◌, ◌++◌}
use native.Mathlib.Omega.{arith}
use lib.ListN.{length, get_or, drop, take}
use lib.Seq.{drop-cons}
use Rattle.bits.specs.Fields.{fields_of}
use Rattle.bits.proofs.Packing.{length_fields, listed_from}
use Rattle.records.specs.Form.{read_fields}
use Rattle.records.specs.declared.Event.{Event}
use Rattle.std.specs.declared.result.Result.TheVariants.{Ok, Err}
use Rattle.refusals.specs.declared.Refusal.{Refusal}
use Rattle.refusals.specs.Numbers.{refusal_number}
use Rattle.records.specs.declared.Event16.{Event16}
use Rattle.records.specs.Event.{widths, event_of, form, event_in, read_of}
use Rattle.records.specs.Event16.{widths16, event16_of, form16, event16_in, read16_of}
use Rattle.records.specs.Rows.{event_row, event16_row}
use Rattle.records.proofs.Round.{fields-are, fields-read, fields-refused}

-- the first n numbers of a list, if it has as many

pub firsts : (v : List ℕ) (n : ℕ) → n ≤ length v → listed_from 0 n v ≡ take n v
firsts v n h = go v 0 n (omega arith)
  where
    go : (v : List ℕ) (k n : ℕ) → k + n ≤ length v → listed_from k n v ≡ take n (drop k v)
    go v k zero h = refl
    go v k (suc n) h =
        ap (λ (xs : List ℕ). get_or v k 0 ∷ xs) (go v (suc k) n (omega arith)) ∙ sym (ap (take (suc n)) (drop-cons v k 0 (omega arith)))

-- bytes whose fields v are read stand in the row by these, and others by their refusal
module _ (s : List ℕ) where
  pub row_is : (v : List ℕ) → Ok v ≡ read_fields form s → 0 ∷ listed_from 0 8 v ≡ event_row (read_of s)
  unfolding read_of event_row
  row_is v h =
      let p = fields-read form s v h in
      let nine : length v ≡ 9 = ap length p.1 ∙ length_fields widths s in
      rw p.0 (ap (λ (xs : List ℕ). 0 ∷ xs) (firsts v 8 (omega arith) ∙ ap (take 8) (p.1 ∙ (fields-are form s p.0).0)))

  pub row-not : (r : Refusal) → Err r ≡ read_fields form s → refusal_number r ∷ 0 ∷ 0 ∷ 0 ∷ 0 ∷ 0 ∷ 0 ∷ 0 ∷ 0 ∷ [] ≡ event_row (read_of s)
  unfolding read_of event_row
  row-not r h = let p = fields-refused form s r h in rw (p.0, p.1)

  pub row16-is : (v : List ℕ) → Ok v ≡ read_fields form16 s → 0 ∷ (listed_from 0 10 v ++ (0 ∷ 0 ∷ [])) ≡ event16_row (read16_of s)
  unfolding read16_of event16_row
  row16-is v h =
      let p = fields-read form16 s v h in
      let eleven : length v ≡ 11 = ap length p.1 ∙ length_fields widths16 s in
      rw p.0 (ap (λ (xs : List ℕ). 0 ∷ (xs ++ (0 ∷ 0 ∷ []))) (firsts v 10 (omega arith) ∙ ap (take 10) (p.1 ∙ (fields-are form16 s p.0).0)))

  pub row16-not : (r : Refusal) → Err r ≡ read_fields form16 s → refusal_number r ∷ 0 ∷ 0 ∷ 0 ∷ 0 ∷ 0 ∷ 0 ∷ 0 ∷ 0 ∷ 0 ∷ 0 ∷ 0 ∷ 0 ∷ [] ≡ event16_row (read16_of s)
  unfolding read16_of event16_row
  row16-not r h = let p = fields-refused form16 s r h in rw (p.0, p.1)
