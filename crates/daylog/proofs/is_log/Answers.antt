-- `daylog::is_log` meets its contract: a count that is too large decides, else the places do. Assumes nothing.
use Rattle.daylog.proofs.Logs.{log-many, log-few}
use Rattle.daylog.proofs.is_log.Goals as goal

pub returns-then-k-gt-PLACES : goal.returns-then-k-gt-PLACES
returns-then-k-gt-PLACES c = log-many _ _ _ c.if-k-gt-PLACES.true

pub returns : goal.returns
returns c = log-few _ _ _ c.if-k-gt-PLACES.false _ c.are_entries.ensures
