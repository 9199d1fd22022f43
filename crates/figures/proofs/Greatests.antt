-- The greatest of some numbers is at most a number exactly if each is, and the bound of them is at least the greatest. Assumes nothing.
use Prim.Native.Nat.{ℕ, ◌+◌, ◌/◌, ◌≤◌, ◌<◌, max, zero-le}
use mathlib.Core.Path.{◌≡◌, refl, sym, ap, ◌∙◌}
use mathlib.Core.Bool.{Bool, true, false, cond, ◌&&◌, and-true, and_assoc}
use mathlib.Core.List.{List, [], ◌∷◌}
use native.Mathlib.Omega.{arith}
use lib.ListN.{length, get_or, drop}
use lib.Dec.{leb, eqb}
use borrow.Author.Tests.{leb-true, le-leb, eqb-true}
use lib.Bits.{bit_or}
use Rattle.laws.proofs.Lists.{from, ended}
use Rattle.laws.proofs.Tests.{and_l, and_r, and_i, same_test, or-zero}
use Rattle.laws.specs.Folds.{every}
use Rattle.figures.specs.Inner.Rows.{greatest_of, are_low, bound_of}

pub greatest-most : (k : ℕ) (xs : List ℕ) → leb (greatest_of xs) k ≡ every (λ n. leb n k) xs
unfolding greatest_of every
greatest-most k [] = le-leb 0 k zero-le
greatest-most k (x ∷ xs) = joined ∙ ap (λ (b : Bool). leb x k && b) (greatest-most k xs)
  where
    g : ℕ
    g = greatest_of xs

    joined : leb (max x g) k ≡ (leb x k && leb g k)
    joined =
        same_test (leb (max x g) k) (leb x k && leb g k)
        (λ h. let m = leb-true (max x g) k h in and_i (le-leb x k (omega arith)) (le-leb g k (omega arith)))
        (λ h. let a = leb-true x k (and_l (leb x k) (leb g k) h) in let b = leb-true g k (and_r (leb x k) (leb g k) h) in le-leb (max x g) k (omega arith))

-- the greatest of those passed and of those from i on
module _ (s : List ℕ) (m i : ℕ) where
  pub greatest-on : i < length s → max m (greatest_of (drop i s)) ≡ max (max m (get_or s i 0)) (greatest_of (drop (i + 1) s))
  unfolding greatest_of
  greatest-on h = rw (from s i h) (omega arith)

  pub greatest-end : length s ≤ i → max m (greatest_of (drop i s)) ≡ m
  unfolding greatest_of
  greatest-end h = rw (ended s i h) (omega arith)

-- whether those passed and those from i on are low: `high` is 0 if those passed are
module _ (s : List ℕ) (high i : ℕ) where
  pub low-on : i < length s → (eqb high 0 && are_low (drop i s)) ≡ (eqb (bit_or high (get_or s i 0 / 576_460_752_303_423_488)) 0 && are_low (drop (i + 1) s))
  unfolding are_low every
  low-on h =
      let x = get_or s i 0 / 576_460_752_303_423_488 in
      rw (from s i h, or-zero high x) (sym (and_assoc (eqb high 0) (eqb x 0) (are_low (drop (i + 1) s))))

  pub low_end : length s ≤ i → (eqb high 0 && are_low (drop i s)) ≡ eqb high 0
  unfolding are_low every
  low_end h = rw (ended s i h) (and-true (eqb high 0))

-- the greatest of low numbers is low
low-greatest : (xs : List ℕ) → are_low xs ≡ true → greatest_of xs ≤ 576_460_752_303_423_487
unfolding are_low every greatest_of
low-greatest [] h = zero-le
low-greatest (x ∷ xs) h =
    let here = eqb-true (x / 576_460_752_303_423_488) 0 (and_l (eqb (x / 576_460_752_303_423_488) 0) (are_low xs) h) in
    let rest = low-greatest xs (and_r (eqb (x / 576_460_752_303_423_488) 0) (are_low xs) h) in
    omega arith

-- the bound is not passed, and above 2^59 it is the greatest
pub greatest-bound : (xs : List ℕ) → greatest_of xs ≤ bound_of xs
unfolding bound_of
greatest-bound xs = go (are_low xs) (low-greatest xs)
  where
    go : (low : Bool) → (low ≡ true → greatest_of xs ≤ 576_460_752_303_423_487) → greatest_of xs ≤ cond low 576_460_752_303_423_487 (greatest_of xs)
    go true h = h refl
    go false h = omega arith

pub bound-above : (xs : List ℕ) → 576_460_752_303_423_488 ≤ bound_of xs → bound_of xs ≡ greatest_of xs
unfolding bound_of
bound-above xs = go (are_low xs)
  where
    go : (low : Bool) → 576_460_752_303_423_488 ≤ cond low 576_460_752_303_423_487 (greatest_of xs) → cond low 576_460_752_303_423_487 (greatest_of xs) ≡ greatest_of xs
    go true h = absurd (omega arith)
    go false h = refl
