-- `daylog::keep_last` meets its contract: the places of those that stay, and their count. Assumes nothing.
use native.Mathlib.Omega.{arith}
use lib.ListN.{get_or}
use Rattle.tables.proofs.Tables.{length-places}
use Rattle.daylog.specs.Inner.Log.{places_in}
use Rattle.daylog.proofs.Logs.{codec, set-table}
use Rattle.daylog.proofs.keep_last.Goals as goal

pub keep_places-requires : goal.keep_places-requires
keep_places-requires c =
    let s = c in
    (s.requires.0.held, omega (arith, s.requires.1, length-places codec (get_or s.args.log.now 0 0) (places_in s.args.log.now)))

pub returns : goal.returns
returns c =
    let s = c in
    set-table s.args.log.now _ _ _ s.requires.0.long c.keep_places.ensures.count c.keep_places.ensures.log
