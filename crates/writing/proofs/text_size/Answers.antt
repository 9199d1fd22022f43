-- `output::text_size` meets its contract: the lines of the table's rules are the text. Assumes nothing.
use Rattle.writing.specs.Writing.{text_of}
use Rattle.writing.specs.Inner.Parts.{profile_in}
use Rattle.writing.proofs.text_size.Goals as goal

pub returns : goal.returns
unfolding text_of profile_in
returns c = c.lines_size.ensures
