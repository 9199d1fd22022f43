-- `seats::places_for` meets its contract: the other's part is lent, and tells what it leaves. Assumes nothing.
use mathlib.Core.Path.{ap, ◌∙◌}
use native.Mathlib.Omega.{arith}
use Rattle.firms.specs.Seats.{room_beside}
use Rattle.seats.specs.Memory.{decode_seat}
use Rattle.seats.proofs.Calls.{ready-is}
use Rattle.seats.proofs.Both.{other-part, other-decoded, other-lent}
use Rattle.seats.proofs.places_for.Goals as goal

pub overflow_mul-other : goal.overflow_mul-other
overflow_mul-other c = record { fits = omega (arith, (ready-is _ _ c.requires).known) }

pub overflow_sub-other : goal.overflow_sub-other
overflow_sub-other c = omega (arith, (ready-is _ _ c.requires).known)

pub slice_bounds-room_beside-end : goal.slice_bounds-room_beside-end
slice_bounds-room_beside-end c = let r = ready-is _ _ c.requires in omega (arith, r.known, r.tests.long)

pub room_beside-requires : goal.room_beside-requires
room_beside-requires c = other-lent _ _ (ready-is _ _ c.requires)

pub returns : goal.returns
returns c = let known = (ready-is _ _ c.requires).known in c.room_beside.ensures ∙ ap room_beside (ap decode_seat (other-part _ _ known) ∙ other-decoded _ _ known)
