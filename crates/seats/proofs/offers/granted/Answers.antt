-- `offers::granted` meets its contract: the grant is the lesser of the two cuts, and the room must have a place for it. Assumes nothing.
use mathlib.Core.Path.{ap, ◌∙◌}
use native.Mathlib.Omega.{arith}
use Rattle.machine.specs.Register.{kept_places}
use Rattle.state.specs.State.{decode}
use Rattle.state.proofs.Laid.{laid-orders, laid-sent}
use Rattle.state.proofs.Uses.{kept-most}
use Rattle.grant.proofs.Joined.{passed_is, inside-read, inside-most}
use Rattle.calls.proofs.Offers.{least-is}
use Rattle.seats.proofs.Granting.{full-done, ready-is, granted-done}
use Rattle.seats.proofs.offers.granted.Goals as goal

pub cuts_of-cuts-requires : goal.cuts_of-cuts-requires
cuts_of-cuts-requires c = let g = c.requires.0 in (g.asked, inside-read g.asked.laid _ c.inside_at-inside.ensures)

pub kept-kept-requires : goal.kept-kept-requires
kept-kept-requires c = laid-orders c.requires.0.asked.laid

pub overflow_add-read : goal.overflow_add-read
overflow_add-read c =
    let start = c in
    let s = decode start.args.s.now in
    let laid = start.requires.0.asked.laid in
    let inside = c.inside_at-inside in
    record {
      fits =
          omega (arith, passed_is s _ inside.ensures, inside-most inside.result.window start.args.o.time s.log, laid.fits.log, c.kept-kept.ensures ∙ ap kept_places (laid-sent laid), kept-most laid.fits);
    }

pub returns-then-joined-room : goal.returns-then-joined-room
returns-then-joined-room c =
    let start = c in
    let g = start.requires.0 in
    let is = least-is _ start.args.o _ c.cuts_of-cuts.ensures _ c.least-grant.ensures in
    let at = c.inside_at-inside.ensures in
    let keeps = c.kept-kept.ensures ∙ ap kept_places (laid-sent g.asked.laid) in
    full-done _ _ g start.args.room start.requires.1 is at keeps c.if-joined-room.true

pub fill-trips-requires : goal.fill-trips-requires
fill-trips-requires c =
    let start = c in
    let g = start.requires.0 in
    let is = least-is _ start.args.o _ c.cuts_of-cuts.ensures _ c.least-grant.ensures in
    let at = c.inside_at-inside.ensures in
    let keeps = c.kept-kept.ensures ∙ ap kept_places (laid-sent g.asked.laid) in
    (ready-is _ _ g start.args.room start.requires.1 is at keeps c.if-joined-room.false c.cuts_of-cuts.ensures, at)

pub returns : goal.returns
returns c =
    let start = c in
    let g = start.requires.0 in
    let is = least-is _ start.args.o _ c.cuts_of-cuts.ensures _ c.least-grant.ensures in
    let at = c.inside_at-inside.ensures in
    let keeps = c.kept-kept.ensures ∙ ap kept_places (laid-sent g.asked.laid) in
    let f = c.fill-trips.ensures in
    granted-done _ _ g start.args.room start.requires.1 is at keeps c.if-joined-room.false f.root f.firm f.memory
