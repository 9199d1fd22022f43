-- `made::rule_at` meets its contract: the two numbers of a place stand for its rule. Assumes nothing.
use Prim.Native.Nat.{◌*◌}
use mathlib.Core.Path.{◌∙◌}
use native.Mathlib.Omega.{arith}
use Rattle.packing.proofs.RulePlace.{rule-here}
use Rattle.given.proofs.rule_at.Goals as goal

pub returns : goal.returns
returns c =
    c.rule_of.ensures ∙ rule-here c.args.rules.now (c.args.i * 2) (omega (arith, c.requires))
