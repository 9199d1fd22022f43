-- `packing::is_rule` meets its contract: two numbers are a rule's exactly if their three parts are. Assumes nothing.
use Rattle.packing.proofs.RuleTests.{rule-off, rule-on}
use Rattle.packing.proofs.is_rule.Goals as goal

pub returns-then-not-is_limit-is_kind : goal.returns-then-not-is_limit-is_kind
returns-then-not-is_limit-is_kind c = rule-off _ _ _ c.is_limit.ensures c.is_kind.ensures c.if-not-is_limit-is_kind.true

pub returns : goal.returns
returns c = rule-on _ _ _ c.is_limit.ensures c.is_kind.ensures c.if-not-is_limit-is_kind.false c.is_scope.ensures
