-- `text::digits::front` meets its contract: the value is what the bytes before i stand for, which all are digits. Assumes nothing.
use Rattle.text.proofs.Runs.{Running}
use Rattle.text.proofs.digits.front.Given as goal

abbrev pub invariant-loop-i : goal.invariant-loop-i
invariant-loop-i g l = Running g.D.Digits.is_digit g.D.Digits.BASE g.D.Digits.NAUGHT l.bytes l.value l.i
