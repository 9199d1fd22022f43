-- `seats::part` meets its contract: the part begins where the seats before it end. Assumes nothing.
use native.Mathlib.Omega.{arith}
use Rattle.seats.proofs.Calls.{ready-is, lent_is}
use Rattle.seats.proofs.part.Goals as goal

pub overflow_mul-at : goal.overflow_mul-at
overflow_mul-at c = record { fits = omega (arith, (ready-is _ _ c.requires).known) }

pub overflow_add-end : goal.overflow_add-end
overflow_add-end c = record { fits = omega (arith, (ready-is _ _ c.requires).known) }

pub offset_bounds-m-at : goal.offset_bounds-m-at
offset_bounds-m-at c = record { fits = omega (arith, (ready-is _ _ c.requires).known) }

pub slice_bounds-result-end : goal.slice_bounds-result-end
slice_bounds-result-end c = let r = ready-is _ _ c.requires in omega (arith, r.known, r.tests.long)

pub returns : goal.returns
returns c = lent_is c.args.m.now c.args.firm
