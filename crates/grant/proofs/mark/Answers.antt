-- `grant::mark` meets its contract: the clock is stored, and then the trips in the part of the locks. Assumes nothing.
use native.Mathlib.Omega.{arith}
use Rattle.machine.specs.State.{State, roots_in}
use Rattle.machine.specs.Locks.{tripped_by}
use Rattle.state.specs.Inner.Laid.{with_locks}
use Rattle.state.proofs.After.{held-laid, step-on}
use Rattle.locks.specs.Inner.Locks.{tripping}
use Rattle.locks.proofs.Laid.{locks-held, locks-after}
use Rattle.grant.proofs.Steps.{clock-holds}
use Rattle.grant.proofs.mark.Goals as goal

pub trip-requires : goal.trip-requires
unfolding roots_in
trip-requires c =
    let start = c in
    let h = clock-holds start.requires.0 c.put_clock.ensures in
    (locks-held (held-laid h), omega (arith, start.requires.0.fits.roots, start.requires.1))

pub returns : goal.returns
returns c =
    let start = c in
    let args = start.args in
    let h = clock-holds start.requires.0 c.put_clock.ensures in
    let change = tripped_by (tripping args.trips.root args.trips.firm) args.o.root in
    step-on h (λ (s : State). with_locks s (change s.part.locks)) (locks-after (held-laid h) change c.trip.ensures)
