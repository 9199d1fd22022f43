-- `bits::within` meets its contract: a shift by n leaves nothing exactly of a word below 2 ^ n. Assumes nothing.
use mathlib.Core.Path.{sym}
use native.Mathlib.Nat.{lt_of_lt_of_le}
use lib.Pow.{pow_mono}
use borrow.Author.Tests.{lt-ltb}
use Rattle.bits.proofs.Words.{beyond-test}
use Rattle.bits.proofs.within.Goals as goal

pub returns-then-n-ge64 : goal.returns-then-n-ge64
returns-then-n-ge64 c = sym (lt-ltb _ _ (lt_of_lt_of_le c.ranges.w.fits (pow_mono c.if-n-ge64.true)))

pub returns : goal.returns
returns c = beyond-test c.args.w c.args.n
