-- `tabled::put_table` meets its contract: nothing where it is refused, else the roots' lines and the firm's. Assumes nothing.
use mathlib.Core.Path.{refl, sym}
use native.Mathlib.Omega.{arith}
use borrow.Author.Rules.{rules}
use Rattle.calls.proofs.Steps.{laid}
use Rattle.refusals.proofs.Once.{some_number}
use Rattle.tabled.proofs.Lines.{none-short, none-refused, written}
use Rattle.tabled.proofs.put_table.Goals as goal

pub returns-then-a-lt-SIZE : goal.returns-then-a-lt-SIZE
returns-then-a-lt-SIZE c =
    let d = none-short c.args.m.now c.args.a.now c.args.room.now c.if-a-lt-SIZE.true in
    record { upper_bound = d.0; value = d.1.0; room_after = d.1.1 }

pub returns-in-Err : goal.returns-in-Err
returns-in-Err c =
    let d = none-refused c.args.m.now c.args.a.now c.args.room.now c.if-a-lt-SIZE.false c.in-Err.ensures (some_number _) in
    record { upper_bound = d.0; value = d.1.0; room_after = d.1.1 }

pub put_roots-to-requires : goal.put_roots-to-requires
put_roots-to-requires c =
    (laid c.args.m.now (sym c.in-Ok.ensures), (c.if-a-lt-SIZE.false, search rules))

pub bounds-m-2 : goal.bounds-m-2
bounds-m-2 c =
    omega (arith, (laid c.args.m.now (sym c.in-Ok.ensures)).long)

pub slice_bounds-put_row-end : goal.slice_bounds-put_row-end
slice_bounds-put_row-end c = omega (arith, c.if-a-lt-SIZE.false)

pub put_row-requires : goal.put_row-requires
put_row-requires c = (search rules, omega (arith, c.put_roots-to.ensures.upper_bound, c.put_roots-to.auto.room))

pub returns-in-Ok : goal.returns-in-Ok
returns-in-Ok c =
    let d = written c.args.m.now c.args.a.now c.args.room.now c.if-a-lt-SIZE.false c.in-Ok.ensures refl c.put_roots-to.ensures.upper_bound c.put_roots-to.ensures.value c.put_roots-to.ensures.room_after c.put_row.ensures.upper_bound c.put_row.ensures.value c.put_row.ensures.room_after in
    record { upper_bound = d.0; value = d.1.0; room_after = d.1.1 }
