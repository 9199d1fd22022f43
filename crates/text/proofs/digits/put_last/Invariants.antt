-- `text::digits::put_last` meets its contract: the digits from place i on are written, and those of the rest are still to be. Assumes nothing.
use Rattle.text.proofs.Runs.{Filling}
use Rattle.text.proofs.digits.put_last.Given as goal

abbrev pub invariant-loop-i : goal.invariant-loop-i
invariant-loop-i g l = Filling g.D.Digits.BASE g.D.Digits.NAUGHT l.n l.room l.rest l.i
