-- `state::put_total` meets its contract: a total is one number of the memory. Assumes nothing.
use Prim.Native.Nat.{ℕ, ◌+◌}
use native.Mathlib.Omega.{arith}
use mathlib.Core.Path.{◌∙◌, ap}
use lib.ListN.{set}
use Rattle.state.proofs.Laid.{laid-few, laid-put}
use Rattle.state.specs.State.{totals_at}
use Rattle.state.proofs.put_total.Goals as goal

pub overflow_add-at : goal.overflow_add-at
overflow_add-at c = omega (arith, laid-few c.requires.0, c.requires.0.long, c.requires.1)

pub offset_bounds-m-at : goal.offset_bounds-m-at
offset_bounds-m-at c = omega (arith, laid-few c.requires.0, c.requires.0.long, c.requires.1)

pub bounds-m-at : goal.bounds-m-at
bounds-m-at c = omega (arith, laid-few c.requires.0, c.requires.0.long, c.requires.1)

pub returns : goal.returns
returns c =
    let start = c in
    ap (λ (n : ℕ). set start.args.m.now (totals_at + start.args.i) n) c.number.ensures ∙ laid-put start.requires.0 start.requires.1 start.args.total
