-- When a table's values are valid, and what their validity says. Assumes nothing.
use Prim.Native.Nat.{ℕ, ◌≤◌}
use mathlib.Core.Path.{◌≡◌, refl}
use mathlib.Core.Bool.{true}
use mathlib.Core.List.{List, [], ◌∷◌}
use lib.ListN.{length}
use lib.Dec.{leb}
use borrow.Author.Tests.{eq-eqb, le-leb, leb-true}
use Rattle.laws.proofs.Tests.{and_l, and_r, and_i}
use Rattle.laws.specs.Folds.{every}
use Rattle.shapes.specs.Shape.{Shape, cell, both, named, rows, table}
use Rattle.shapes.proofs.Exact.{rows_all}

-- every number passes where none is tested
pub every_any : (xs : List ℕ) → every (λ x. true) xs ≡ true
unfolding every
every_any [] = refl
every_any (x ∷ xs) = every_any xs

module _ {w : ℕ} {A : Type 0} (n : ℕ) (s : Shape w A) (rs : List A) where
  pub rows_ok : (k : ℕ) → length rs ≡ k → k ≤ n → every s.ok rs ≡ true → (rows n s k).ok rs ≡ true
  unfolding rows
  rows_ok k many few all = and_i (and_i (eq-eqb _ _ many) (le-leb _ _ few)) all

  pub table-ok : length rs ≤ n → every s.ok rs ≡ true → (table n s).ok rs ≡ true
  unfolding table named both cell
  table-ok few all = and_i (le-leb _ _ few) (rows_ok (length rs) refl few all)

  pub table-few : (table n s).ok rs ≡ true → length rs ≤ n
  unfolding table named both cell
  table-few h = leb-true _ _ (and_l (leb (length rs) n) _ h)

  pub table-all : (table n s).ok rs ≡ true → every s.ok rs ≡ true
  unfolding table named both cell
  table-all h = rows_all n s (length rs) rs (and_r (leb (length rs) n) _ h)
