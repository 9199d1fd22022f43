-- `bits::eights::word` meets its contract: it is the library's method. Assumes nothing.
use mathlib.Core.Path.{◌∙◌}
use Rattle.bits.proofs.Eightfold.{word_of}
use Rattle.bits.proofs.eights.word.Goals as goal

pub returns : goal.returns
returns c = c.from_be_bytes.ensures ∙ word_of c.args.s.now c.requires
