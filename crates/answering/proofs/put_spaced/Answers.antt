-- `answering::put_spaced` meets its contract: the numbers from place i on are still to be written. Assumes nothing.
use lib.ListN.{get_or, length-set}
use native.Mathlib.Omega.{arith}
use Rattle.text.proofs.Decimal.{decimal-few}
use Rattle.answering.proofs.Texts.{spacing-none, spacing-on, spacing-end}
use Rattle.answering.proofs.put_spaced.Goals as goal

pub loop-n-init : goal.loop-n-init
loop-n-init c = spacing-none _ _ _

pub bounds-room-to : goal.bounds-room-to
bounds-room-to c = omega (arith, c.requires, c.loop-n.invariant.near, c.loop-n.invariant.long)

pub overflow_add-to : goal.overflow_add-to
overflow_add-to c = omega (arith, c.requires, c.loop-n.invariant.near, c.loop-n.invariant.long)

pub put_decimal-to-requires : goal.put_decimal-to-requires
put_decimal-to-requires c = simp length-set (omega (arith, c.requires, c.loop-n.invariant.near, c.loop-n.invariant.long, c.loop-n-test.true, decimal-few (get_or c.args.numbers.now c.loop-n.n-index 0)))

pub loop-n-preserved : goal.loop-n-preserved
loop-n-preserved c =
    spacing-on c.loop-n.invariant c.loop-n-test.true c.put_decimal-to.result c.put_decimal-to.new.room c.put_decimal-to.ensures.value c.put_decimal-to.ensures.room_after

pub bounds-room-to-2 : goal.bounds-room-to-2
bounds-room-to-2 c = omega (arith, c.requires, c.loop-n.invariant.near, c.loop-n.invariant.long, c.loop-n.invariant.within)

pub overflow_add-result : goal.overflow_add-result
overflow_add-result c = omega (arith, c.requires, c.loop-n.invariant.near, c.loop-n.invariant.long, c.loop-n.invariant.within)

pub shape_of-room : goal.shape_of-room
shape_of-room c = simp length-set c.loop-n.invariant.long

pub returns : goal.returns
returns c =
    let d = spacing-end c.loop-n.invariant c.loop-n-test.false in
    record { value = d.0; room_after = d.1.0; upper_bound = d.1.1 }
