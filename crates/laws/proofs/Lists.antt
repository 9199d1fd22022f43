-- Laws of lists as loops go through them: what stands from a place on, and two lists that hold the same numbers. Assumes nothing.
use Prim.Native.Nat.{ℕ, suc, ◌+◌, ◌≤◌, ◌<◌}
use mathlib.Core.Path.{◌≡◌, refl, ap, ap₂}
use mathlib.Core.Bool.{Bool, true, false, ◌&&◌, false≢true}
use mathlib.Core.List.{List, [], ◌∷◌}
use lib.ListN.{length, get_or, drop, drop_of_length-le}
use lib.Seq.{drop-cons}
use lib.Dec.{eqb}
use borrow.Author.Tests.{eqb-true, eq-eqb, ne_eqb}
use native.Mathlib.Omega.{arith}
use native.Mathlib.Numerals.{add-one}
use Rattle.laws.specs.Lists.{same}
use Rattle.laws.proofs.Tests.{and_l, and_r}

-- a list from place i on has what stands at i in front, as code counts
pub from : (s : List ℕ) (i : ℕ) → i < length s → drop i s ≡ get_or s i 0 ∷ drop (i + 1) s
from s i h = rw (add-one i) (drop-cons s i 0 h)

pub ended : (s : List ℕ) (i : ℕ) → length s ≤ i → drop i s ≡ []
ended s i h = drop_of_length-le s h

pub same-eq : (a b : List ℕ) → same a b ≡ true → a ≡ b
unfolding same
same-eq [] [] h = refl
same-eq [] (y ∷ ys) h = absurd (false≢true h)
same-eq (x ∷ xs) [] h = absurd (false≢true h)
same-eq (x ∷ xs) (y ∷ ys) h =
    ap₂ (λ (z : ℕ) (zs : List ℕ). z ∷ zs) (eqb-true x y (and_l (eqb x y) (same xs ys) h)) (same-eq xs ys (and_r (eqb x y) (same xs ys) h))

pub same_refl : (a : List ℕ) → same a a ≡ true
unfolding same
same_refl [] = refl
same_refl (x ∷ xs) = ap₂ (λ (p q : Bool). p && q) (eq-eqb x x refl) (same_refl xs)

pub same-short : (a b : List ℕ) → (length a ≡ length b → ⊥) → same a b ≡ false
unfolding same
same-short [] [] h = absurd (h refl)
same-short [] (y ∷ ys) h = refl
same-short (x ∷ xs) [] h = refl
same-short (x ∷ xs) (y ∷ ys) h = go (eqb x y) (same-short xs ys (λ e. h (ap suc e)))
  where
    go : (t : Bool) → same xs ys ≡ false → (t && same xs ys) ≡ false
    go true e = e
    go false e = refl

-- one number more that is the same, or differs; the end of both
module _ (a b : List ℕ) (i : ℕ) (h : i < length a) (k : i < length b) where
  pub same-on : get_or a i 0 ≡ get_or b i 0 → same (drop i a) (drop i b) ≡ same (drop (i + 1) a) (drop (i + 1) b)
  unfolding same
  same-on e = rw (from a i h, from b i k, eq-eqb (get_or a i 0) (get_or b i 0) e)

  pub same-off : (get_or a i 0 ≡ get_or b i 0 → ⊥) → same (drop i a) (drop i b) ≡ false
  unfolding same
  same-off n = rw (from a i h, from b i k, ne_eqb (get_or a i 0) (get_or b i 0) n)

pub same_end : (a b : List ℕ) (i : ℕ) → length a ≡ length b → length a ≤ i → same (drop i a) (drop i b) ≡ true
unfolding same
same_end a b i e h = rw (ended a i h, ended b i (omega arith))
