-- `answering::answer_event` meets its contract: each arm is given which event it is, and its time in whole milliseconds. Assumes nothing.
use Rattle.answering.specs.Run.{record_call}
use Rattle.answering.proofs.answer_event.Goals as goal

pub returns-in-Order : goal.returns-in-Order
unfolding record_call
returns-in-Order c = rw (c.in-Order.is, ← c.milliseconds.ensures) c.order.ensures

pub returns-in-Offer : goal.returns-in-Offer
unfolding record_call
returns-in-Offer c = rw (c.in-Offer.is, ← c.offered.ensures) c.offer.ensures

pub returns-in-Lockout : goal.returns-in-Lockout
unfolding record_call
returns-in-Lockout c = rw (c.in-Lockout.is, ← c.milliseconds-in-Lockout.ensures) c.lockout.ensures

pub returns-in-Sending : goal.returns-in-Sending
unfolding record_call
returns-in-Sending c = rw (c.in-Sending.is, ← c.offered-o.ensures) c.send.ensures

pub returns-in-Report : goal.returns-in-Report
unfolding record_call
returns-in-Report c = rw (c.in-Report.is, ← c.milliseconds-in-Report.ensures) c.report.ensures

pub returns-in-Closing : goal.returns-in-Closing
unfolding record_call
returns-in-Closing c = rw (c.in-Closing.is, ← c.milliseconds-in-Closing.ensures) c.close.ensures
