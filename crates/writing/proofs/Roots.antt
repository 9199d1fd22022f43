-- Roots that are names, no two the same: each stands at its own place among them. Assumes nothing.
use Prim.Native.Nat.{ℕ, zero, suc, ◌<◌, min}
use mathlib.Core.Path.{◌≡◌, refl, sym}
use mathlib.Core.Bool.{true, false, not}
use mathlib.Core.List.{List, [], ◌∷◌}
use lib.ListN.{length, get_or, take}
use lib.Dec.{eqb}
use borrow.Author.Tests.{eq-eqb, ne_eqb, eqb-false, not-true}
use native.Mathlib.Nat.{min-zero, zero-min, suc-min-suc}
use native.Mathlib.Omega.{arith}
use Rattle.laws.proofs.Tests.{and_l, and_r, tests}
use Rattle.text.specs.Text.{index_of}
use Rattle.given.specs.Names.{is_name_number}
use Rattle.given.specs.Given.{is_fresh, are_roots}

-- a name that does not stand among others is none of them
pub fresh_at : (name : ℕ) (names : List ℕ) (i : ℕ) → is_fresh name names ≡ true → i < length names → eqb name (get_or names i 0) ≡ false
unfolding is_fresh
fresh_at name [] i h l = absurd (omega arith)
fresh_at name (x ∷ xs) zero h l = ne_eqb name x (λ e. eqb-false x name (not-true (eqb x name) (and_l (not (eqb x name)) (is_fresh name xs) h)) (sym e))
fresh_at name (x ∷ xs) (suc i) h l = fresh_at name xs i (and_r (not (eqb x name)) (is_fresh name xs) h) (omega arith)

-- the parts of the test of the roots
module _ (name : ℕ) (names : List ℕ) (h : are_roots (name ∷ names) ≡ true) where
  first-name : is_name_number 1 6 name ≡ true
  unfolding are_roots
  first-name = search tests

  first-fresh : is_fresh name names ≡ true
  unfolding are_roots
  first-fresh = search tests

  other-roots : are_roots names ≡ true
  unfolding are_roots
  other-roots = search tests

pub root-name : (roots : List ℕ) (r : ℕ) → are_roots roots ≡ true → r < length roots → is_name_number 1 6 (get_or roots r 0) ≡ true
root-name [] r h l = absurd (omega arith)
root-name (x ∷ xs) zero h l = first-name x xs h
root-name (x ∷ xs) (suc r) h l = root-name xs r (other-roots x xs h) (omega arith)

-- among the first s roots, a root's name stands at its number, and at the end if it is not one of them
pub root-index : (roots : List ℕ) (r s : ℕ) → are_roots roots ≡ true → r < length roots → index_of (get_or roots r 0) (take s roots) ≡ min r s
unfolding index_of
root-index [] r s h l = absurd (omega arith)
root-index (x ∷ xs) r zero h l = sym (min-zero r)
root-index (x ∷ xs) zero (suc s) h l = rw (eq-eqb x x refl) (sym (zero-min (suc s)))
root-index (x ∷ xs) (suc r) (suc s) h l =
    rw (fresh_at x xs r (first-fresh x xs h) (omega arith), root-index xs r s (other-roots x xs h) (omega arith)) (sym (suc-min-suc r s))
