-- `daylog::sum_in` meets its contract: the arm tells the limit. Assumes nothing.
use Rattle.rules.specs.Amounts.{amount_in}
use Rattle.daylog.proofs.sum_in.Goals as goal

pub returns-in-Notional : goal.returns-in-Notional
unfolding amount_in
returns-in-Notional c = rw c.in-Notional.is

pub returns-in-Volume : goal.returns-in-Volume
unfolding amount_in
returns-in-Volume c = rw c.in-Volume.is

pub returns-in-Count : goal.returns-in-Count
unfolding amount_in
returns-in-Count c = rw c.in-Count.is
