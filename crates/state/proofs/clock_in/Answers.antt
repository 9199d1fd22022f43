-- `state::clock_in` meets its contract: the clock stands in its place. Assumes nothing.
use Rattle.state.proofs.Laid.{laid-clock-is}
use Rattle.state.proofs.clock_in.Goals as goal

pub returns : goal.returns
returns c = laid-clock-is c.requires
