-- `calls::is_open` meets its contract: the place that is found is one of the register's exactly if an order is open. Assumes nothing.
use Rattle.state.proofs.Laid.{laid-orders}
use Rattle.calls.proofs.AwayTests.{found-open}
use Rattle.calls.proofs.refusing.is_open.Goals as goal

pub find-requires : goal.find-requires
find-requires c = laid-orders c.requires

pub returns : goal.returns
returns c = found-open _ c.requires _ c.find.ensures c.orders_in.ensures
