-- `packing::rule_place` meets its contract: the rule's two numbers if it passes the test. Assumes nothing.
use Rattle.std.proofs.Common.{sym, ◌∙◌}
use Rattle.tables.specs.Inner.Tables.{place_of, zeros}
use Rattle.packing.specs.RulePlace.{rule_numbers}
use Rattle.packing.proofs.rule_place.Goals as goal

pub returns-then-not-may_hold : goal.returns-then-not-may_hold
unfolding place_of zeros
returns-then-not-may_hold c = rw (sym c.may_hold.ensures ∙ c.if-not-may_hold.true)

pub returns : goal.returns
unfolding place_of rule_numbers
returns c = rw (sym c.may_hold.ensures ∙ c.if-not-may_hold.false, c.limit_word.ensures, c.scope_word.ensures)
