-- `daylog::unflag` meets its contract: the places of the entries that stay, and their count. Assumes nothing.
use Rattle.daylog.proofs.Logs.{set-table}
use Rattle.daylog.proofs.unflag.Goals as goal

pub returns : goal.returns
returns c =
    let s = c in
    set-table s.args.log.now _ _ _ s.requires.long c.unflag_places-left.ensures.count c.unflag_places-left.ensures.log
