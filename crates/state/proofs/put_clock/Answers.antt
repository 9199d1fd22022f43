-- `state::put_clock` meets its contract: the clock is one number of the memory. Assumes nothing.
use Rattle.state.proofs.Laid.{laid-clock}
use Rattle.state.proofs.put_clock.Goals as goal

pub returns : goal.returns
returns c = laid-clock c.requires c.args.time
