-- `given::total_most` meets its contract: a kind by its case. Assumes nothing.
use Rattle.rules.specs.Rules.{is_rate}
use Rattle.given.proofs.totals.total_most.Goals as goal

pub returns-in-Rate : goal.returns-in-Rate
unfolding is_rate
returns-in-Rate c = rw c.in-Rate.is

pub returns-in-Absolute : goal.returns-in-Absolute
unfolding is_rate
returns-in-Absolute c = rw c.in-Absolute.is
