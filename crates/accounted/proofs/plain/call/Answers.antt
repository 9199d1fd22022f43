-- `accounted::plain::call` meets its contract, event by event. Assumes nothing.
use Rattle.accounted.specs.Accounted.{call_of}
use Rattle.accounted.proofs.plain.call.Goals as goal

pub returns-in-Order : goal.returns-in-Order
unfolding call_of
returns-in-Order c = rw c.in-Order.is c.order.ensures

pub returns-in-Lockout : goal.returns-in-Lockout
unfolding call_of
returns-in-Lockout c = rw c.in-Lockout.is c.lockout.ensures

pub returns-in-Offer : goal.returns-in-Offer
unfolding call_of
returns-in-Offer c = rw c.in-Offer.is c.offer.ensures

pub returns-in-Send : goal.returns-in-Send
unfolding call_of
returns-in-Send c = rw c.in-Send.is c.send.ensures

pub returns-in-Report : goal.returns-in-Report
unfolding call_of
returns-in-Report c = rw c.in-Report.is c.report.ensures

pub returns-in-Close : goal.returns-in-Close
unfolding call_of
returns-in-Close c = rw c.in-Close.is c.close.ensures
