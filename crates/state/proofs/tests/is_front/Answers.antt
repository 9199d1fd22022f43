-- `state::is_front` meets its contract: each number has its own test, and the roots theirs. Assumes nothing.
use Rattle.state.specs.Inner.Tests.{front_holds}
use Rattle.state.proofs.tests.is_front.Goals as goal

pub returns : goal.returns
unfolding front_holds
returns c = rw (c.is_in.ensures, c.is_name_number.ensures, c.are_roots.ensures)
