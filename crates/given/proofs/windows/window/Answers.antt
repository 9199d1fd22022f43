-- `given::window` meets its contract: only a rate rule has a window. Assumes nothing.
use Rattle.machine.specs.Offers.{window_of}
use borrow.Author.Rules.{rules}
use Rattle.given.proofs.windows.window.Goals as goal

pub returns-in-Rate : goal.returns-in-Rate
unfolding window_of
returns-in-Rate c = search rules

pub returns-in-Absolute : goal.returns-in-Absolute
unfolding window_of
returns-in-Absolute c = search rules
