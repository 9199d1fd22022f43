-- `sends::lacks` meets its contract: by the rules alone where the places pass the room, else by the use. Assumes nothing.
use Rattle.machine.specs.State.{rules_in, roots_in}
use Rattle.machine.proofs.Windows.{rate-longest}
use Rattle.state.specs.State.{decode}
use Rattle.seats.proofs.Sending.{short-small, short-is}
use Rattle.seats.proofs.sends.lacks.Goals as goal

pub returns-then-room-places : goal.returns-then-room-places
returns-then-room-places c =
    let start = c in
    let s = decode start.args.s.now in
    short-small s _ _ _ (rate-longest (roots_in s) (rules_in s) start.requires.0.fits.valid).0 c.if-room-places.true c.longest_window.ensures

pub returns : goal.returns
returns c = short-is _ _ _ _ c.if-room-places.false _ c.uses_less.ensures
