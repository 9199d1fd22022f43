-- `bits::write_fields` meets its contract: each value goes in below the earlier ones, and the number's bytes are the room's first. Assumes nothing.
use Rattle.bits.specs.Fields.{packed}
use Rattle.bits.proofs.Placing.{Placed}
use Rattle.bits.proofs.write_fields.Given as goal

abbrev pub invariant-loop-value : goal.invariant-loop-value
invariant-loop-value l = Placed (packed l.widths l.vals) l.number l.value-iterator.b.rest.now l.value-iterator.a.rest.now
