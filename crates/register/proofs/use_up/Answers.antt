-- `register::use_up` meets its contract: both numbers of the order are lowered, and no other order has its identity. Assumes nothing.
use Prim.Native.Nat.{ℕ, ◌+◌, ◌*◌, ◌-◌}
use mathlib.Core.Path.{◌≡◌, refl, ap}
use native.Mathlib.Omega.{arith}
use mathlib.Core.List.{List}
use lib.ListN.{get_or, set}
use lib.Seq.{get_or-set_other}
use Rattle.register.proofs.Changing.{first_some, second-enough, used-numbers}
use Rattle.register.proofs.use_up.Goals as goal

-- what is written first leaves the second number
second : (xs : List ℕ) (i v : ℕ) → get_or (set xs (1 + i * 2) v) (1 + i * 2 + 1) 0 ≡ get_or xs (1 + i * 2 + 1) 0
second xs i v = get_or-set_other xs (1 + i * 2) (1 + i * 2 + 1) v 0 (λ e. omega arith)

pub overflow_sub-register : goal.overflow_sub-register
overflow_sub-register c = omega (arith, first_some c.args.register.now c.args.i c.requires.0 c.requires.2 c.requires.4)

pub overflow_sub-register-2 : goal.overflow_sub-register-2
overflow_sub-register-2 c =
    let xs = c.args.register.now in
    let i = c.args.i in
    omega (arith, second xs i (get_or xs (1 + i * 2) 0 - 1), second-enough xs i c.requires.0 c.requires.2 c.args.contracts c.requires.3)

pub returns : goal.returns
returns c =
    let xs = c.args.register.now in
    let i = c.args.i in
    used-numbers xs i c.requires.0 c.requires.2 c.args.contracts _ _ c.requires.1 c.requires.3 c.requires.4 refl (ap (λ (n : ℕ). n - c.args.contracts) (second xs i (get_or xs (1 + i * 2) 0 - 1)))
