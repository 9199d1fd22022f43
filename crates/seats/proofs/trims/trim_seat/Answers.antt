-- `trims::trim_seat` meets its contract. Assumes nothing.
use Rattle.seats.proofs.Tested.{seat-armed-sound}
use Rattle.seats.proofs.Leaving.{empty_left, armed-left}
use Rattle.seats.proofs.trims.trim_seat.Goals as goal

pub returns-then-s-eq0 : goal.returns-then-s-eq0
returns-then-s-eq0 c = empty_left _ c.requires.0 c.requires.1 c.if-s-eq0.true

pub trim-requires : goal.trim-requires
trim-requires c = seat-armed-sound _ c.requires.0 c.if-s-eq0.false

pub returns : goal.returns
returns c = armed-left _ c.requires.1 c.if-s-eq0.false c.trim.ensures
