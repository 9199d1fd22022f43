-- `calls::bad_time` meets its contract: both tests are run. Assumes nothing.
use Rattle.calls.proofs.refusing.bad_time.Goals as goal

pub returns : goal.returns
returns c = rw c.is_in.ensures
