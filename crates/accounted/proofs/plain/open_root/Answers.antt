-- `accounted::plain::open_root` meets its contract: the order at the place that was found, if there is one. Assumes nothing.
use Rattle.state.proofs.Laid.{laid-orders}
use Rattle.accounted.proofs.Taken.{no-root, found-root, found-placed}
use Rattle.accounted.proofs.plain.open_root.Goals as goal

pub find-i-requires : goal.find-i-requires
find-i-requires c = laid-orders c.requires

pub returns-then-orders_in-i : goal.returns-then-orders_in-i
returns-then-orders_in-i c = no-root _ c.requires _ c.find-i.ensures c.orders_in.ensures c.if-orders_in-i.true

pub sent_in-sent-requires : goal.sent_in-sent-requires
sent_in-sent-requires c = (laid-orders c.requires, found-placed _ c.requires _ c.find-i.ensures c.orders_in.ensures c.if-orders_in-i.false)

pub returns : goal.returns
returns c = found-root _ c.requires _ c.find-i.ensures c.orders_in.ensures c.sent_in-sent.ensures
