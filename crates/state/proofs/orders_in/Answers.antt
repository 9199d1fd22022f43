-- `state::orders_in` meets its contract: the register's table has its count in front. Assumes nothing.
use Rattle.state.proofs.Laid.{laid-open}
use Rattle.state.proofs.orders_in.Goals as goal

pub returns : goal.returns
returns c = laid-open c.requires
