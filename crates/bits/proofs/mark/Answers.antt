-- `bits::mark` meets its contract: or with `1 << r` sets bit r. Assumes nothing.
use Rattle.bits.proofs.Words.{one_shl, or-bit}
use Rattle.bits.proofs.mark.Goals as goal

pub returns : goal.returns
returns c = rw (one_shl _ c.requires) (or-bit _ _)
