-- `figures::are_low` meets its contract: what is joined so far is 0, and what is left is low, exactly if all is. Assumes nothing.
use Rattle.std.proofs.Common.{◌∙◌, sym, arith}
use Rattle.figures.proofs.Greatests.{low-on, low_end}
use Rattle.figures.proofs.are_low.Goals as goal

pub loop-n-preserved : goal.loop-n-preserved
loop-n-preserved c = sym (low-on c.args.s.now c.loop-n.high c.loop-n.n-index (omega arith)) ∙ c.loop-n.invariant

pub returns : goal.returns
returns c = sym (low_end c.args.s.now c.loop-n.high c.loop-n.n-index c.loop-n-test.false) ∙ c.loop-n.invariant
