-- `tabled::event_of` meets its contract, record by record. Assumes nothing.
use Rattle.answering.specs.Run.{record_call as call_of16}
use Rattle.accounted.specs.Accounted.{call_of}
use Rattle.tabled.proofs.event_of.Goals as goal

pub returns-in-Order : goal.returns-in-Order
unfolding call_of call_of16
returns-in-Order c = rw (c.in-Order.is, c.milliseconds.ensures)

pub returns-in-Offer : goal.returns-in-Offer
unfolding call_of call_of16
returns-in-Offer c = rw (c.in-Offer.is, c.offered.ensures)

pub returns-in-Lockout : goal.returns-in-Lockout
unfolding call_of call_of16
returns-in-Lockout c = rw (c.in-Lockout.is, c.milliseconds-in-Lockout.ensures)

pub returns-in-Sending : goal.returns-in-Sending
unfolding call_of call_of16
returns-in-Sending c = rw (c.in-Sending.is, c.offered-in-Sending.ensures)

pub returns-in-Report : goal.returns-in-Report
unfolding call_of call_of16
returns-in-Report c = rw (c.in-Report.is, c.milliseconds-in-Report.ensures)

pub returns-in-Closing : goal.returns-in-Closing
unfolding call_of call_of16
returns-in-Closing c = rw (c.in-Closing.is, c.milliseconds-in-Closing.ensures)
