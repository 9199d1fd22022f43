-- `calls::is_short_of` meets its contract: so many places more pass those of the log exactly if the use is not below the rest. Assumes nothing.
use Rattle.calls.proofs.Offers.{short-is}
use Rattle.calls.proofs.granting.is_short_of.Goals as goal

pub returns : goal.returns
returns c = short-is _ _ _ c.requires.2 _ c.uses_less.ensures
