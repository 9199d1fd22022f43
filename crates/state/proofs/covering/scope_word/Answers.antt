-- `state::covering::scope_word` meets its contract: the rule stands in its place of the table. Assumes nothing.
use Prim.Native.Nat.{◌+◌, ◌*◌}
use native.Mathlib.Omega.{arith}
use mathlib.Core.Path.{sym, ap, ◌∙◌}
use lib.ListN.{get_or}
use Rattle.rules.specs.Rules.{is_rate}
use Rattle.rules.specs.declared.Rule.{Rule}
use Rattle.packing.proofs.RulePlace.{rule-in, rule-here}
use Rattle.state.specs.Inner.Tests.{rules_part}
use Rattle.state.proofs.Laid.{laid-rule}
use Rattle.state.proofs.Scopes.{rate-by}
use Rattle.state.proofs.covering.scope_word.Goals as goal

pub overflow_mul-at : goal.overflow_mul-at
overflow_mul-at c = omega (arith, c.requires.0.fits.rules, c.requires.1)

pub overflow_add-at : goal.overflow_add-at
overflow_add-at c = omega (arith, c.requires.0.fits.rules, c.requires.1)

pub overflow_add-result : goal.overflow_add-result
overflow_add-result c = omega (arith, c.requires.0.fits.rules, c.requires.1)

pub offset_bounds-table-at : goal.offset_bounds-table-at
offset_bounds-table-at c = omega (arith, c.requires.0.fits.rules, c.requires.1)

pub bounds-table-at : goal.bounds-table-at
bounds-table-at c = omega (arith, c.requires.0.fits.rules, c.requires.1)

pub returns : goal.returns
returns c =
    let start = c in
    let part = rules_part start.args.m.now in
    let at = start.args.i * 2 + 1 in
    let is = sym (rule-in (get_or part at 0) (get_or part (at + 1) 0) _) ∙ rule-here part at (omega (arith, c.requires.0.fits.rules, c.requires.1)) ∙ laid-rule start.requires.0 start.requires.1 in
    (sym (ap (λ (q : Rule). q.scope) is), ap (λ (q : Rule). is_rate q.kind) (sym is) ∙ rate-by _ _)
