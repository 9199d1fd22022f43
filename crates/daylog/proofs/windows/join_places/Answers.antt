-- `daylog::join_places` meets its contract: the entries that stay, and then the new one, make the new log. Assumes nothing.
use Rattle.daylog.proofs.Turns.{joined-log}
use Rattle.daylog.proofs.windows.join_places.Goals as goal

pub returns : goal.returns
returns c = joined-log _ c.keep_places.ensures c.requires.2 c.args.e c.put_entry.ensures
