-- `daylog::join` meets its contract: the new log's places, and its count. Assumes nothing.
use native.Mathlib.Omega.{arith}
use lib.ListN.{get_or}
use Rattle.tables.proofs.Tables.{length-places}
use Rattle.daylog.specs.Inner.Log.{places_in}
use Rattle.daylog.proofs.Logs.{codec, set-table}
use Rattle.daylog.proofs.join.Goals as goal

pub join_places-n-requires : goal.join_places-n-requires
join_places-n-requires c =
    let s = c in
    let k = get_or s.args.log.now 0 0 in
    (s.requires.0.held, omega (arith, s.requires.1, length-places codec k (places_in s.args.log.now)), s.requires.2, s.requires.3)

pub returns : goal.returns
returns c =
    let s = c in
    set-table s.args.log.now _ _ _ s.requires.0.long c.join_places-n.ensures.count c.join_places-n.ensures.log
