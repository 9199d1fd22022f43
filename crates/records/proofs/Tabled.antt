-- The tables of the kinds say which fields are a record's: kind by kind the fields that it does not use are 0, and the others are in their ranges.
-- Assumes nothing.
use Prim.Native.Nat.{ℕ, zero, suc}
use mathlib.Core.Path.{◌≡◌, refl, sym, ap, ap₂, ◌∙◌}
use mathlib.Core.Bool.{Bool, true, false, ◌&&◌, ◌||◌, and-true, and-false, and_assoc}
use mathlib.Core.List.{List, [], ◌∷◌}
use native.Mathlib.Omega.{arith}
use lib.ListN.{length, get_or}
use lib.Dec.{eqb}
use Rattle.measures.specs.Ranges.{◌to◌, is_in, times, roots, units, premiums, offers, identities, reports_asked}
use Rattle.laws.proofs.Tests.{none_in}
use Rattle.bits.specs.Fields.{fields_of}
use Rattle.records.specs.Form.{stands, accepts}
use Rattle.records.specs.Event.{form}
use Rattle.records.specs.Event16.{bytes16, widths16, form16, stamps}
use Rattle.records.specs.Kinds.{uses16, is_used, are_used, are_fields, is_record16}
use Rattle.records.specs.Inner.Ranges.{uses12}
use Rattle.records.proofs.Standing.{order-stands, offer-stands, lockout-stands, none-stands, order16-stands, offer16-stands, lockout16-stands, sending-stands, report-stands, closing-stands, none16-stands}
use Rattle.bits.proofs.Packing.{length_fields, listed_from, listed}

-- tests that all hold; the same from the left

abbrev all : List Bool → Bool
all [] = true
all (x ∷ xs) = x && all xs

abbrev left_all : Bool → List Bool → Bool
left_all a [] = a
left_all a (x ∷ xs) = left_all (a && x) xs

left-all : (a : Bool) (xs : List Bool) → left_all a xs ≡ all (a ∷ xs)
left-all a [] = sym (and-true a)
left-all a (x ∷ xs) = left-all (a && x) xs ∙ and_assoc a x (all xs)

-- tests of two lists in one, in some order: a from the first, b from the second
data Merged : List Bool → List Bool → List Bool → Type 0 where
  end : Merged [] [] []
  a : {x : Bool} {xs ys zs : List Bool} → Merged xs ys zs → Merged (x ∷ xs) ys (x ∷ zs)
  b : {y : Bool} {xs ys zs : List Bool} → Merged xs ys zs → Merged xs (y ∷ ys) (y ∷ zs)

merged : {xs ys zs : List Bool} → Merged xs ys zs → (all xs && all ys) ≡ all zs
merged end = refl
merged (a {x} {xs} {ys} {zs} m) = and_assoc x (all xs) (all ys) ∙ ap (λ (t : Bool). x && t) (merged m)
merged (b {y} {xs} {ys} {zs} m) = swapped y (all xs) (all ys) ∙ ap (λ (t : Bool). y && t) (merged m)
  where
    swapped : (y p q : Bool) → (p && (y && q)) ≡ (y && (p && q))
    swapped true p q = refl
    swapped false p q = and-false p

-- whether each number is 0
abbrev zeros : List ℕ → List Bool
zeros [] = []
zeros (x ∷ xs) = eqb x 0 ∷ zeros xs

none-zeros : (xs : List ℕ) → none_in xs ≡ all (zeros xs)
none-zeros [] = refl
none-zeros (x ∷ xs) = ap (λ (t : Bool). eqb x 0 && t) (none-zeros xs)

-- numbers that are 0, and tests, as the tests of a row
woven : (xs : List ℕ) (t : Bool) (ts : List Bool) {zs : List Bool} → Merged (zeros xs) (t ∷ ts) zs → (none_in xs && left_all t ts) ≡ all zs
woven xs t ts m = ap₂ (λ (p q : Bool). p && q) (none-zeros xs) (left-all t ts) ∙ merged {xs = zeros xs} {ys = t ∷ ts} m

-- a report's contracts come before its identity in the row
turned : (x y w : Bool) → (x && y && w) ≡ (x && w && y)
turned true true w = sym (and-true w)
turned true false w = sym (and-false w)
turned false y w = refl

module _ (t r u p c s l i q z : ℕ) where
  row0 : stands form16 (0 ∷ t ∷ r ∷ u ∷ p ∷ c ∷ s ∷ l ∷ i ∷ q ∷ z ∷ []) ≡ are_fields uses16 (0 ∷ t ∷ r ∷ u ∷ p ∷ c ∷ s ∷ l ∷ i ∷ q ∷ z ∷ [])
  unfolding are_fields uses16 are_used is_used
  row0 =
      sym (order16-stands t r u p c s l i q z)
      ∙ woven (u ∷ p ∷ c ∷ l ∷ i ∷ q ∷ z ∷ []) (is_in stamps t) (is_in roots r ∷ is_in (0 to 6) s ∷ []) (b (b (a (a (a (b (a (a (a (a end))))))))))
      ∙ sym (and-true _)

  row1 : stands form16 (1 ∷ t ∷ r ∷ u ∷ p ∷ c ∷ s ∷ l ∷ i ∷ q ∷ z ∷ []) ≡ are_fields uses16 (1 ∷ t ∷ r ∷ u ∷ p ∷ c ∷ s ∷ l ∷ i ∷ q ∷ z ∷ [])
  unfolding are_fields uses16 are_used is_used
  row1 =
      sym (offer16-stands t r u p c s l i q z)
      ∙ woven (s ∷ l ∷ i ∷ q ∷ z ∷ []) (is_in stamps t) (is_in roots r ∷ is_in units u ∷ is_in premiums p ∷ is_in offers c ∷ []) (b (b (b (b (b (a (a (a (a (a end))))))))))
      ∙ sym (and-true _)

  row2 : stands form16 (2 ∷ t ∷ r ∷ u ∷ p ∷ c ∷ s ∷ l ∷ i ∷ q ∷ z ∷ []) ≡ are_fields uses16 (2 ∷ t ∷ r ∷ u ∷ p ∷ c ∷ s ∷ l ∷ i ∷ q ∷ z ∷ [])
  unfolding are_fields uses16 are_used is_used
  row2 =
      let used = is_in stamps t && is_in roots r && is_in (0 to 1) l in
      let alone = eqb l 0 || eqb r 0 in
      sym (lockout16-stands t r u p c s l i q z) ∙ sym (and_assoc (none_in (u ∷ p ∷ c ∷ s ∷ i ∷ q ∷ z ∷ [])) used alone)
      ∙ ap (λ (x : Bool). x && alone) (woven (u ∷ p ∷ c ∷ s ∷ i ∷ q ∷ z ∷ []) (is_in stamps t) (is_in roots r ∷ is_in (0 to 1) l ∷ []) (b (b (a (a (a (a (b (a (a (a end)))))))))))

  row3 : stands form16 (3 ∷ t ∷ r ∷ u ∷ p ∷ c ∷ s ∷ l ∷ i ∷ q ∷ z ∷ []) ≡ are_fields uses16 (3 ∷ t ∷ r ∷ u ∷ p ∷ c ∷ s ∷ l ∷ i ∷ q ∷ z ∷ [])
  unfolding are_fields uses16 are_used is_used
  row3 =
      sym (sending-stands t r u p c s l i q z)
      ∙ woven (s ∷ l ∷ z ∷ []) (is_in stamps t) (is_in roots r ∷ is_in units u ∷ is_in premiums p ∷ is_in offers c ∷ is_in identities i ∷ is_in reports_asked q ∷ []) (b (b (b (b (b (a (a (b (b (a end))))))))))
      ∙ sym (and-true _)

  row4 : stands form16 (4 ∷ t ∷ r ∷ u ∷ p ∷ c ∷ s ∷ l ∷ i ∷ q ∷ z ∷ []) ≡ are_fields uses16 (4 ∷ t ∷ r ∷ u ∷ p ∷ c ∷ s ∷ l ∷ i ∷ q ∷ z ∷ [])
  unfolding are_fields uses16 are_used is_used
  row4 =
      sym (report-stands t r u p c s l i q z)
      ∙ ap (λ (x : Bool). none_in (r ∷ u ∷ p ∷ s ∷ l ∷ q ∷ z ∷ []) && x) (turned (is_in stamps t) (is_in identities i) (is_in offers c))
      ∙ woven (r ∷ u ∷ p ∷ s ∷ l ∷ q ∷ z ∷ []) (is_in stamps t) (is_in offers c ∷ is_in identities i ∷ []) (b (a (a (a (b (a (a (b (a (a end))))))))))
      ∙ sym (and-true _)

  row5 : stands form16 (5 ∷ t ∷ r ∷ u ∷ p ∷ c ∷ s ∷ l ∷ i ∷ q ∷ z ∷ []) ≡ are_fields uses16 (5 ∷ t ∷ r ∷ u ∷ p ∷ c ∷ s ∷ l ∷ i ∷ q ∷ z ∷ [])
  unfolding are_fields uses16 are_used is_used
  row5 =
      sym (closing-stands t r u p c s l i q z)
      ∙ woven (r ∷ u ∷ p ∷ c ∷ s ∷ l ∷ q ∷ z ∷ []) (is_in stamps t) (is_in identities i ∷ []) (b (a (a (a (a (a (a (b (a (a end))))))))))
      ∙ sym (and-true _)

  -- no row has another kind
  rows : (k : ℕ) → stands form16 (k ∷ t ∷ r ∷ u ∷ p ∷ c ∷ s ∷ l ∷ i ∷ q ∷ z ∷ []) ≡ are_fields uses16 (k ∷ t ∷ r ∷ u ∷ p ∷ c ∷ s ∷ l ∷ i ∷ q ∷ z ∷ [])
  unfolding are_fields uses16 are_used
  rows zero = row0
  rows (suc zero) = row1
  rows (suc (suc zero)) = row2
  rows (suc (suc (suc zero))) = row3
  rows (suc (suc (suc (suc zero)))) = row4
  rows (suc (suc (suc (suc (suc zero))))) = row5
  rows (suc (suc (suc (suc (suc (suc k)))))) =
      none16-stands t r u p c s l i q z (suc (suc (suc (suc (suc (suc k)))))) (λ e. omega arith) (λ e. omega arith) (λ e. omega arith) (λ e. omega arith) (λ e. omega arith) (λ e. omega arith)

-- the same of 12 bytes
module _ (t r u p c s l z : ℕ) where
  old0 : stands form (0 ∷ t ∷ r ∷ u ∷ p ∷ c ∷ s ∷ l ∷ z ∷ []) ≡ are_fields uses12 (0 ∷ t ∷ r ∷ u ∷ p ∷ c ∷ s ∷ l ∷ z ∷ [])
  unfolding are_fields uses12 are_used is_used
  old0 =
      sym (order-stands t r u p c s l z)
      ∙ woven (u ∷ p ∷ c ∷ l ∷ z ∷ []) (is_in times t) (is_in roots r ∷ is_in (0 to 3) s ∷ []) (b (b (a (a (a (b (a (a end))))))))
      ∙ sym (and-true _)

  old1 : stands form (1 ∷ t ∷ r ∷ u ∷ p ∷ c ∷ s ∷ l ∷ z ∷ []) ≡ are_fields uses12 (1 ∷ t ∷ r ∷ u ∷ p ∷ c ∷ s ∷ l ∷ z ∷ [])
  unfolding are_fields uses12 are_used is_used
  old1 =
      sym (offer-stands t r u p c s l z)
      ∙ woven (s ∷ l ∷ z ∷ []) (is_in times t) (is_in roots r ∷ is_in units u ∷ is_in premiums p ∷ is_in offers c ∷ []) (b (b (b (b (b (a (a (a end))))))))
      ∙ sym (and-true _)

  old2 : stands form (2 ∷ t ∷ r ∷ u ∷ p ∷ c ∷ s ∷ l ∷ z ∷ []) ≡ are_fields uses12 (2 ∷ t ∷ r ∷ u ∷ p ∷ c ∷ s ∷ l ∷ z ∷ [])
  unfolding are_fields uses12 are_used is_used
  old2 =
      let used = is_in times t && is_in roots r && is_in (0 to 1) l in
      let alone = eqb l 0 || eqb r 0 in
      sym (lockout-stands t r u p c s l z) ∙ sym (and_assoc (none_in (u ∷ p ∷ c ∷ s ∷ z ∷ [])) used alone)
      ∙ ap (λ (x : Bool). x && alone) (woven (u ∷ p ∷ c ∷ s ∷ z ∷ []) (is_in times t) (is_in roots r ∷ is_in (0 to 1) l ∷ []) (b (b (a (a (a (a (b (a end)))))))))

  olds : (k : ℕ) → stands form (k ∷ t ∷ r ∷ u ∷ p ∷ c ∷ s ∷ l ∷ z ∷ []) ≡ are_fields uses12 (k ∷ t ∷ r ∷ u ∷ p ∷ c ∷ s ∷ l ∷ z ∷ [])
  unfolding are_fields uses12 are_used
  olds zero = old0
  olds (suc zero) = old1
  olds (suc (suc zero)) = old2
  olds (suc (suc (suc k))) = none-stands t r u p c s l z (suc (suc (suc k))) (λ e. omega arith) (λ e. omega arith) (λ e. omega arith)

-- so values are an event's exactly if the table of their form says so
pub by-table : (v : List ℕ) → length v ≡ 9 → stands form v ≡ are_fields uses12 v
by-table v size =
    let all : listed_from 0 9 v ≡ v = listed v 0 9 size in
    ap (stands form) (sym all)
    ∙ olds (get_or v 1 0) (get_or v 2 0) (get_or v 3 0) (get_or v 4 0) (get_or v 5 0) (get_or v 6 0) (get_or v 7 0) (get_or v 8 0) (get_or v 0 0)
    ∙ ap (are_fields uses12) all

pub by-table16 : (v : List ℕ) → length v ≡ 11 → stands form16 v ≡ are_fields uses16 v
by-table16 v size =
    let all : listed_from 0 11 v ≡ v = listed v 0 11 size in
    ap (stands form16) (sym all)
    ∙ rows (get_or v 1 0) (get_or v 2 0) (get_or v 3 0) (get_or v 4 0) (get_or v 5 0) (get_or v 6 0) (get_or v 7 0) (get_or v 8 0) (get_or v 9 0) (get_or v 10 0) (get_or v 0 0)
    ∙ ap (are_fields uses16) all

-- and bytes are a record exactly if the table says so
pub record-by-table : (s : List ℕ) → accepts form16 s ≡ is_record16 s
unfolding accepts
record-by-table s = ap (λ (x : Bool). eqb (length s) bytes16 && x) (by-table16 (fields_of widths16 s) (length_fields widths16 s))
