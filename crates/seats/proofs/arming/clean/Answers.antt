-- `arming::clean` meets its contract: an armed seat stays, and any other becomes zeros. Assumes nothing.
use Rattle.seats.proofs.Armable.{clean-kept, clean-zeros}
use Rattle.seats.proofs.arming.clean.Goals as goal

pub returns-then-s-ne0 : goal.returns-then-s-ne0
returns-then-s-ne0 c = clean-kept _ c.requires.0 (c.requires.1 c.if-s-ne0.true)

pub returns : goal.returns
returns c = clean-zeros _ c.requires.0 c.if-s-ne0.false c.blank.ensures
