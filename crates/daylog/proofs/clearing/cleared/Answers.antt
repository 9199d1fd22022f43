-- `daylog::cleared` meets its contract: the digits of the flags are those of the levels that the reset concerns, test by test. Assumes nothing.
use lib.Bits.{and_le_l}
use Rattle.machine.specs.Effects.{zeroing}
use Rattle.daylog.specs.Inner.Sieve.{flag_digits, without_flags}
use Rattle.daylog.proofs.clearing.cleared.Goals as goal

pub overflow_sub-result : goal.overflow_sub-result
overflow_sub-result c = and_le_l _ _

pub returns : goal.returns
unfolding without_flags flag_digits zeroing
returns c = rw c.flag_digits.ensures
