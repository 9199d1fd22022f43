-- `state::rule_in` meets its contract: the rule stands in its place of the table. Assumes nothing.
use Prim.Native.Nat.{◌+◌, ◌*◌}
use native.Mathlib.Omega.{arith}
use mathlib.Core.Path.{◌∙◌}
use Rattle.packing.proofs.RulePlace.{rule-here}
use Rattle.state.specs.Inner.Tests.{rules_part}
use Rattle.state.proofs.Laid.{laid-rule}
use Rattle.state.proofs.rule_in.Goals as goal

pub overflow_mul-at : goal.overflow_mul-at
overflow_mul-at c = omega (arith, c.requires.0.fits.rules, c.requires.1)

pub overflow_add-at : goal.overflow_add-at
overflow_add-at c = omega (arith, c.requires.0.fits.rules, c.requires.1)

pub offset_bounds-table-at : goal.offset_bounds-table-at
offset_bounds-table-at c = omega (arith, c.requires.0.fits.rules, c.requires.1)

pub bounds-table-at : goal.bounds-table-at
bounds-table-at c = omega (arith, c.requires.0.fits.rules, c.requires.1)

pub overflow_add-second : goal.overflow_add-second
overflow_add-second c = omega (arith, c.requires.0.fits.rules, c.requires.1)

pub offset_bounds-table-at-2 : goal.offset_bounds-table-at-2
offset_bounds-table-at-2 c = omega (arith, c.requires.0.fits.rules, c.requires.1)

pub bounds-table-at-2 : goal.bounds-table-at-2
bounds-table-at-2 c = omega (arith, c.requires.0.fits.rules, c.requires.1)

pub returns : goal.returns
returns c =
    let start = c in
    c.rule_of.ensures ∙ rule-here (rules_part start.args.m.now) (start.args.i * 2 + 1) (omega (arith, c.requires.0.fits.rules, c.requires.1)) ∙ laid-rule start.requires.0 start.requires.1
