-- `tabled::put_row` meets its contract: the name and the figures one after the other. Assumes nothing.
use native.Mathlib.Omega.{arith}
use Rattle.text.specs.Digits.{name_bytes}
use Rattle.text.proofs.Written.{then-written}
use Rattle.given.proofs.Names.{name-few}
use Rattle.answering.specs.Lines.{spaced}
use Rattle.tabled.proofs.put_row.Goals as goal

pub put_name-next-requires : goal.put_name-next-requires
put_name-next-requires c = omega (arith, c.requires.1, name-few c.args.name)

pub put_spaced-requires : goal.put_spaced-requires
put_spaced-requires c = omega (arith, c.requires.0, c.requires.1, c.put_name-next.ensures.value, c.put_name-next.auto.room, name-few c.args.name)

pub returns : goal.returns
returns c =
    let s = c in
    let is = then-written s.args.room.now (name_bytes s.args.name) (spaced s.args.figures.now) s.args.at c.put_name-next.ensures.value c.put_name-next.ensures.room_after c.put_spaced.ensures.value c.put_spaced.ensures.room_after in
    record { upper_bound = omega (arith, s.requires.0, c.put_name-next.ensures.value, c.put_spaced.ensures.upper_bound, name-few s.args.name); value = is.0; room_after = is.1 }
