-- `state::are_locks` meets its contract: each number has its own test. Assumes nothing.
use Rattle.state.specs.Inner.Tests.{locks_hold}
use Rattle.state.proofs.tests.are_locks.Goals as goal

pub returns : goal.returns
unfolding locks_hold
returns c = rw (c.is_in.ensures, c.is_in-2.ensures, c.within.ensures, c.within-2.ensures)
