-- `grant::fill` meets its contract: after the totals, the log, and the clock with the trips, memory holds the state that the machine gives. Assumes nothing.
use Rattle.state.proofs.After.{held-laid}
use Rattle.machine.specs.Deeds.{granted}
use Rattle.grant.proofs.Steps.{ready-filling, paid-holds, paid-filling, paid-inside, logged-holds, granted-holds, used-root, trips-root, trips-firm, filled-memory}
use Rattle.grant.proofs.fill.Goals as goal

pub credit-reached-requires : goal.credit-reached-requires
credit-reached-requires c =
    let r = c.requires.0 in
    (r.asked, r.totals, (ready-filling r).most)

pub join_log-requires : goal.join_log-requires
join_log-requires c =
    let at-credit = c in
    let f = ready-filling at-credit.requires.0 in
    let h = paid-holds f at-credit.credit-reached.ensures in
    let g = paid-filling f h in
    (g.asked, g.most, g.room, paid-inside f h at-credit.requires.1)

pub mark-requires : goal.mark-requires
mark-requires c =
    let at_join = c in
    let at-credit = at_join in
    let f = ready-filling at-credit.requires.0 in
    let h = granted-holds f (logged-holds f (paid-holds f at-credit.credit-reached.ensures) at_join.join_log.ensures) in
    (held-laid h, used-root f granted h)

pub returns : goal.returns
returns c =
    let at_join = c in
    let at-credit = at_join in
    let r = at-credit.requires.0 in
    let e = at-credit.credit-reached.ensures in
    let f = ready-filling r in
    let h = granted-holds f (logged-holds f (paid-holds f e) at_join.join_log.ensures) in
    record {
      memory = filled-memory f granted h (trips-root r e) (trips-firm r e) c.mark.ensures;
      root = trips-root r e;
      firm = trips-firm r e;
    }
