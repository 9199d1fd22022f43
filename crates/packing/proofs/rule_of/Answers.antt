-- `packing::rule_of` meets its contract: each field stands where the shift and the mask take it from. Assumes nothing.
use Rattle.std.proofs.Common.{sym}
use Rattle.packing.proofs.RulePlace.{rule-in}
use Rattle.packing.proofs.rule_of.Goals as goal

pub returns : goal.returns
returns c = rw (c.scope_of-scope.ensures, c.kind_of-kind.ensures, c.limit_of-limit.ensures) (sym (rule-in _ _ _))
