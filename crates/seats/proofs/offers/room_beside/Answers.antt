-- `offers::room_beside` meets its contract. Assumes nothing.
use native.Mathlib.Omega.{arith}
use Rattle.seats.proofs.Tested.{laid_of, order-of, use-of, use-low, seat-armed-sound}
use Rattle.seats.proofs.Granting.{room-empty, room-armed}
use Rattle.seats.proofs.offers.room_beside.Goals as goal

pub returns-then-s-eq0 : goal.returns-then-s-eq0
returns-then-s-eq0 c = room-empty _ c.if-s-eq0.true

pub clock_in-requires : goal.clock_in-requires
clock_in-requires c = laid_of _ (seat-armed-sound _ c.requires.0 c.if-s-eq0.false)

pub used_at-requires : goal.used_at-requires
used_at-requires c = let h = seat-armed-sound _ c.requires.0 c.if-s-eq0.false in (laid_of _ h, order-of _ h c.clock_in.ensures)

pub overflow_sub-result : goal.overflow_sub-result
overflow_sub-result c = let h = seat-armed-sound _ c.requires.0 c.if-s-eq0.false in omega (arith, c.greatest.ensures, use-of _ h c.clock_in.ensures c.used_at.ensures, use-low _ h)

pub returns : goal.returns
returns c = let h = seat-armed-sound _ c.requires.0 c.if-s-eq0.false in room-armed _ c.if-s-eq0.false (use-of _ h c.clock_in.ensures c.used_at.ensures) c.greatest.ensures
