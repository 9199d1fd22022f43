-- `bits::eights::put_word` meets its contract: it is the library's method. Assumes nothing.
use mathlib.Core.Path.{◌∙◌}
use Rattle.bits.proofs.Eightfold.{bytes_of_word}
use Rattle.bits.proofs.eights.put_word.Goals as goal

pub returns : goal.returns
returns c = c.copy_from_slice.ensures.after ∙ c.to_be_bytes.ensures ∙ bytes_of_word _ c.ranges.n.fits
