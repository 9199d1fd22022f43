-- `profile::put_rule` meets its contract: the rule's two numbers are stored one after the other. Assumes nothing.
use Prim.Native.Nat.{◌*◌}
use native.Mathlib.Numerals.{add-one}
use native.Mathlib.Omega.{arith}
use lib.ListN.{length-set}
use Rattle.packing.proofs.RulePlace.{rule-placed}
use Rattle.profile.proofs.put_rule.Goals as goal

pub bounds-rules-at-2 : goal.bounds-rules-at-2
bounds-rules-at-2 c =
    omega (arith, length-set c.args.rules.now (c.args.i * 2) c.rule_place-p.result.first, c.requires)

pub returns : goal.returns
returns c = rw (rule-placed c.args.rule _ c.requires.2 c.rule_place-p.ensures, add-one)
