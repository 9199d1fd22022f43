-- Executions: at most one for any contracts, and one for some. Assumes nothing.
use Prim.Native.Nat.{ℕ, zero, suc, ◌≤◌}
use mathlib.Core.Path.{◌≡◌, refl}
use native.Mathlib.Omega.{arith}
use Rattle.measures.specs.Ranges.{executions}

pub executions_one : (n : ℕ) → (n ≡ 0 → ⊥) → executions n ≡ 1
unfolding executions
executions_one zero h = absurd (h refl)
executions_one (suc n) h = refl

pub executions-most : (n : ℕ) → executions n ≤ 1
unfolding executions
executions-most zero = omega arith
executions-most (suc n) = omega arith
