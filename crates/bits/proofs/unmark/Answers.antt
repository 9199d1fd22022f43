-- `bits::unmark` meets its contract: and with all bits but r clears bit r. Assumes nothing.
use Rattle.bits.proofs.Words.{one_shl, and_not_bit}
use Rattle.bits.proofs.unmark.Goals as goal

pub returns : goal.returns
returns c = rw (one_shl _ c.requires) (and_not_bit _ _ c.ranges.w.fits c.requires)
