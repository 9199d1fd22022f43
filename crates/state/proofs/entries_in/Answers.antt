-- `state::entries_in` meets its contract: the log's table has its count in front. Assumes nothing.
use Rattle.state.proofs.Laid.{laid-many}
use Rattle.state.proofs.entries_in.Goals as goal

pub returns : goal.returns
returns c = laid-many c.requires
