-- `bits::read_fields` meets its contract: each field is cut out of the number that the bytes are. Assumes nothing.
use Rattle.bits.proofs.Giving.{Given}
use Rattle.bits.proofs.read_fields.Given as goal

abbrev pub invariant-loop-j : goal.invariant-loop-j
invariant-loop-j l = Given l.widths l.out l.number l.below l.j
