-- `answering::put_spaced` meets its contract: the numbers from a place on are still to be written. Assumes nothing.
use Rattle.answering.proofs.Texts.{Spacing}
use Rattle.answering.proofs.put_spaced.Given as goal

abbrev pub invariant-loop-n : goal.invariant-loop-n
invariant-loop-n l = Spacing l.numbers l.initial.room l.room l.at l.to l.n-index
