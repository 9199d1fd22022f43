-- `accounted::plain::happening` meets its contract, event by event. Assumes nothing.
use Rattle.figures.specs.Happenings.{happening_of}
use Rattle.accounted.specs.Accounted.{call_of}
use Rattle.accounted.proofs.plain.happening.Goals as goal

pub returns-in-Order : goal.returns-in-Order
unfolding happening_of call_of
returns-in-Order c = rw c.in-Order.is c.ordered.ensures

pub returns-in-Lockout : goal.returns-in-Lockout
unfolding happening_of call_of
returns-in-Lockout c = rw c.in-Lockout.is

pub returns-in-Offer : goal.returns-in-Offer
unfolding happening_of call_of
returns-in-Offer c = rw c.in-Offer.is c.offered.ensures

pub returns-in-Send : goal.returns-in-Send
unfolding happening_of call_of
returns-in-Send c = rw c.in-Send.is c.ordered-in-Send.ensures

pub returns-in-Report : goal.returns-in-Report
unfolding happening_of call_of
returns-in-Report c = rw c.in-Report.is (rw (← c.open_root.ensures) c.reported.ensures)

pub returns-in-Close : goal.returns-in-Close
unfolding happening_of call_of
returns-in-Close c = rw c.in-Close.is
