-- `state::are_parts` meets its contract: the parts as they are lent are those of the memory. Assumes nothing.
use Rattle.state.specs.Inner.Tests.{parts_hold}
use Rattle.state.proofs.tests.are_parts.Goals as goal

pub returns : goal.returns
unfolding parts_hold
returns c =
    let locks = c in
    rw (locks.are_locks.ensures, locks.requires.1, c.is_log.ensures, c.is_register.ensures)
