-- `given::test_rules` meets its contract: a count out of range decides, else the places do. Assumes nothing.
use native.Mathlib.Omega.{arith}
use lib.ListN.{length-drop, drop}
use lib.Seq.{length-take-le}
use Rattle.given.proofs.Counts.{rules-out, rules-few, rules-in}
use Rattle.given.proofs.test_rules.Goals as goal

pub returns-then-not-is_in : goal.returns-then-not-is_in
returns-then-not-is_in c = rules-out _ _ _ _ c.is_in.ensures c.if-not-is_in.true

pub test_places-requires : goal.test_places-requires
test_places-requires c = (
  length-take-le 512 (drop 1 c.args.rules.now) (omega (arith, length-drop 1 c.args.rules.now, c.requires.0)),
  c.requires.1,
  rules-few c.args.n c.args.rules.now c.args.totals.now _ c.is_in.ensures c.if-not-is_in.false,
  c.requires.2,
)

pub returns : goal.returns
returns c = rules-in _ _ _ _ c.is_in.ensures c.if-not-is_in.false _ c.test_places.ensures
