-- `seats::is_seat` meets its contract. Assumes nothing.
use Rattle.seats.proofs.Tested.{seat-zero, seat-armed}
use Rattle.seats.proofs.is_seat.Goals as goal

pub returns-then-s-eq0 : goal.returns-then-s-eq0
returns-then-s-eq0 c = seat-zero _ c.if-s-eq0.true c.is_zero.ensures

pub returns : goal.returns
returns c = seat-armed _ c.if-s-eq0.false c.is_sound.ensures
