-- `output::put_lines` meets its contract: the lines of the rules from place i on are still to be written. Assumes nothing.
use Rattle.writing.proofs.Loops.{Writing}
use Rattle.writing.proofs.put_lines.Given as goal

abbrev pub invariant-loop-i : goal.invariant-loop-i
invariant-loop-i l = Writing l.firm l.roots l.rules l.k l.initial.room l.room l.to l.i
