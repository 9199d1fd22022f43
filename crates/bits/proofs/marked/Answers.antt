-- `bits::marked` meets its contract: a shift and a remainder read bit r. Assumes nothing.
use Rattle.bits.specs.Locks.{bit}
use mathlib.Core.Path.{refl}
use Rattle.bits.proofs.marked.Goals as goal

pub returns : goal.returns
unfolding bit
returns c = refl
