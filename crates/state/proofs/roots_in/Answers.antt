-- `state::roots_in` meets its contract: the roots' table has its count in front. Assumes nothing.
use Rattle.state.proofs.Laid.{laid-roots}
use Rattle.state.proofs.roots_in.Goals as goal

pub returns : goal.returns
returns c = laid-roots c.requires
