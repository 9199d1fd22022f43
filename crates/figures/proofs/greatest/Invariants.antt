-- `figures::greatest` meets its contract: the greatest so far and of those left is that of all. Assumes nothing.
use Rattle.std.proofs.Common.{◌≡◌, drop, max}
use Rattle.figures.specs.Inner.Rows.{greatest_of}
use Rattle.figures.proofs.greatest.Given as goal

abbrev pub invariant-loop-n : goal.invariant-loop-n
invariant-loop-n l = max l.most (greatest_of (drop l.n-index l.s)) ≡ greatest_of l.s
