-- `calls::is_cell` meets its contract: the rule is looked at only if there is one. Assumes nothing.
use mathlib.Core.Path.{ap, ◌∙◌}
use native.Mathlib.Omega.{arith}
use borrow.Author.Tests.{lt-ltb, le-ltb}
use Rattle.rules.specs.Units.{is_unit_of}
use Rattle.rules.specs.declared.Rule.{Rule}
use Rattle.machine.specs.Remaining.{is_cell}
use Rattle.calls.proofs.refusing.is_cell.Goals as goal

pub returns-then-rules_in-rule : goal.returns-then-rules_in-rule
unfolding is_cell
returns-then-rules_in-rule c = rw (← c.rules_in.ensures, le-ltb _ _ c.if-rules_in-rule.true)

pub rule_in-known-requires : goal.rule_in-known-requires
rule_in-known-requires c = (c.requires, omega (arith, c.rules_in.ensures, c.if-rules_in-rule.false))

pub returns : goal.returns
unfolding is_cell
returns c =
    let start = c in
    c.counts_for.ensures ∙ ap (λ (r : Rule). is_unit_of r.scope start.args.unit) c.rule_in-known.ensures
    ∙ rw (← c.rules_in.ensures, lt-ltb _ _ c.if-rules_in-rule.false)
