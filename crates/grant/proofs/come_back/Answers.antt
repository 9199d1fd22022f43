-- `grant::come_back` meets its contract: after the totals, the log, the register, and the clock with the trips, memory holds the state that the machine gives. Assumes nothing.
use Rattle.rules.specs.declared.Level.TheVariants.{Firm, Root}
use Rattle.machine.specs.Deeds.{reported}
use Rattle.state.specs.State.{decode}
use Rattle.state.proofs.After.{held-laid}
use Rattle.register.specs.Register.{sent_at_place}
use Rattle.grant.proofs.Joined.{inside-read}
use Rattle.grant.proofs.Steps.{returning-filling, returning-trips, paid-holds, paid-filling, paid-inside, logged-holds, still_placed, reported-holds, used-root, filled-memory}
use Rattle.grant.proofs.come_back.Goals as goal

pub cuts_of-cuts-requires : goal.cuts_of-cuts-requires
cuts_of-cuts-requires c =
    let p = c.requires.asked in
    (p, inside-read p.laid _ c.inside_at-inside.ensures)

pub join_log-requires : goal.join_log-requires
join_log-requires c =
    let f = returning-filling c.requires in
    let h = paid-holds f c.credit-reached.ensures in
    let g = paid-filling f h in
    (g.asked, g.most, g.room, paid-inside f h c.inside_at-inside.ensures)

pub use_up-requires : goal.use_up-requires
use_up-requires c =
    let r = c.requires in
    let f = returning-filling r in
    still_placed r (logged-holds f (paid-holds f c.credit-reached.ensures) c.join_log.ensures)

pub mark-requires : goal.mark-requires
mark-requires c =
    let start = c in
    let r = start.requires in
    let f = returning-filling r in
    let h = reported-holds r (logged-holds f (paid-holds f c.credit-reached.ensures) c.join_log.ensures) c.use_up.ensures in
    (held-laid h, used-root f (reported (sent_at_place (decode start.args.m.now).part.register start.args.i).identity) h)

pub returns : goal.returns
returns c =
    let start = c in
    let r = start.requires in
    let f = returning-filling r in
    let h = reported-holds r (logged-holds f (paid-holds f c.credit-reached.ensures) c.join_log.ensures) c.use_up.ensures in
    let identity = (sent_at_place (decode start.args.m.now).part.register start.args.i).identity in
    let root = returning-trips r (Root start.args.o.root) c.credit-reached.ensures.root c.cuts_of-cuts.ensures.root identity in
    let firm = returning-trips r Firm c.credit-reached.ensures.firm c.cuts_of-cuts.ensures.firm identity in
    record { memory = filled-memory f (reported identity) h root firm c.mark.ensures; root = root; firm = firm }
