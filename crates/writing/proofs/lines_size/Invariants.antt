-- `output::lines_size` meets its contract: the lines of the rules from place i on are still to be counted. Assumes nothing.
use Rattle.writing.proofs.Loops.{Counting}
use Rattle.writing.proofs.lines_size.Given as goal

abbrev pub invariant-loop-i : goal.invariant-loop-i
invariant-loop-i l = Counting l.firm l.roots l.rules l.k l.size l.i
