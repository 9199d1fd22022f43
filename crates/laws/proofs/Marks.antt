-- Numbers marked by a remainder: a number whose remainder is not marked is none of them. Assumes nothing.
use Prim.Native.Nat.{ℕ, ◌%◌}
use mathlib.Core.Path.{◌≡◌, sym, ap, ◌∙◌}
use mathlib.Core.Bool.{false}
use native.Mathlib.Omega.{arith}
use lib.Dec.{eqb}
use borrow.Author.Tests.{ne_eqb}

-- the remainder of y is marked, and no other mark changes: a number whose remainder is not marked now is not y, and its remainder was not marked before
pub unmarked : (m y : ℕ) (before after : ℕ → ℕ) → after (y % m) ≡ 1 → ((r : ℕ) → (r ≡ y % m → ⊥) → after r ≡ before r)
    → (x : ℕ) → after (x % m) ≡ 0 → (eqb y x ≡ false) × (before (x % m) ≡ 0)
unmarked m y before after here elsewhere x new =
    let apart : x % m ≡ y % m → ⊥ = λ e. omega (arith, here, ap after e, new) in
    (ne_eqb y x (λ e. apart (ap (λ (n : ℕ). n % m) (sym e))), sym (elsewhere (x % m) apart) ∙ new)
