-- `daylog::recent_entries` meets its contract: the last ones are all that are inside. Assumes nothing.
use Rattle.daylog.proofs.recent_entries.Goals as goal

pub returns : goal.returns
returns c = c.inside.ensures.count
