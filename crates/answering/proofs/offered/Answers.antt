-- `answering::offered` meets its contract: its time is in whole milliseconds, and the rest is as it was given. Assumes nothing.
use Rattle.answering.proofs.offered.Goals as goal

pub returns : goal.returns
returns c = λ k. record { time = c.milliseconds.ensures k; root = c.args.root; unit = c.args.unit; premium = c.args.premium; contracts = c.args.contracts }
