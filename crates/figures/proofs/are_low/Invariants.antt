-- `figures::are_low` meets its contract: what is joined so far is 0, and what is left is low, exactly if all is. Assumes nothing.
use Rattle.std.proofs.Common.{◌≡◌, ◌&&◌, drop, eqb}
use Rattle.figures.specs.Inner.Rows.{are_low}
use Rattle.figures.proofs.are_low.Given as goal

abbrev pub invariant-loop-n : goal.invariant-loop-n
invariant-loop-n l = (eqb l.high 0 && are_low (drop l.n-index l.s)) ≡ are_low l.s
