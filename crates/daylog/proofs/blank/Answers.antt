-- `daylog::blank` meets its contract: a clone of a number is that number, so each becomes 0. Assumes nothing.
use Rattle.tables.specs.Inner.Tables.{zeros}
use Rattle.daylog.proofs.blank.Goals as goal

pub returns : goal.returns
unfolding zeros
returns c = c.fill.ensures.after (λ y e. e)
