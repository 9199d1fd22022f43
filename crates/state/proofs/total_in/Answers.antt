-- `state::total_in` meets its contract: the number in its place, in the limit's measure, is the total. Assumes nothing.
use Prim.Native.Nat.{◌+◌}
use native.Mathlib.Omega.{arith}
use mathlib.Core.Path.{◌∙◌, ap}
use lib.ListN.{get_or}
use Rattle.rules.specs.Amounts.{amount_in}
use Rattle.rules.specs.declared.Limit.{Limit}
use Rattle.state.proofs.Laid.{laid-few, laid-total}
use Rattle.state.specs.State.{totals_at}
use Rattle.state.proofs.total_in.Goals as goal

pub overflow_add-at : goal.overflow_add-at
overflow_add-at c = omega (arith, laid-few c.requires.0, c.requires.0.long, c.requires.1)

pub offset_bounds-m-at : goal.offset_bounds-m-at
offset_bounds-m-at c = omega (arith, laid-few c.requires.0, c.requires.0.long, c.requires.1)

pub bounds-m-at : goal.bounds-m-at
bounds-m-at c = omega (arith, laid-few c.requires.0, c.requires.0.long, c.requires.1)

pub returns : goal.returns
returns c =
    let start = c in
    let n = get_or start.args.m.now (totals_at + start.args.i) 0 in
    c.amount.ensures ∙ ap (λ (limit : Limit). amount_in limit n) start.requires.2 ∙ laid-total start.requires.0 start.requires.1
