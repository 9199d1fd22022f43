-- `rules::Rule::allowance` meets its contract: the measure of what is left tells the rule's, and its law says that the number worked out is the largest. Assumes nothing.
use mathlib.Core.Path.{sym, ◌∙◌}
use Rattle.rules.proofs.Laws.{allowed-money, allowed-lots, allowed-none, allowed_all}
use Rattle.rules.proofs.Rule.allowance.Goals as goal

pub returns-in-Notional : goal.returns-in-Notional
returns-in-Notional c = rw c.min.ensures (allowed-money _ _ _ _ _ (sym c.in-Notional.is ∙ c.left.ensures) c.requires.2)

pub returns-in-Volume : goal.returns-in-Volume
returns-in-Volume c = rw c.min-in-Volume.ensures (allowed-lots _ _ _ _ _ (sym c.in-Volume.is ∙ c.left.ensures))

pub returns-then-executions-eq0 : goal.returns-then-executions-eq0
returns-then-executions-eq0 c = allowed-none _ _ _ _ _ (sym c.in-Count.is ∙ c.left.ensures) c.if-executions-eq0.true

pub returns-else-executions-eq0 : goal.returns-else-executions-eq0
returns-else-executions-eq0 c = allowed_all _ _ _ _ _ (sym c.in-Count.is ∙ c.left.ensures) c.if-executions-eq0.false
