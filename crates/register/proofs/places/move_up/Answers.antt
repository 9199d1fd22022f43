-- `register::places::move_up` meets its contract: all have moved but two, which become 0. Assumes nothing.
use Rattle.register.proofs.Moving.{moved_all}
use Rattle.register.proofs.places.move_up.Goals as goal

pub returns : goal.returns
returns c = moved_all c.args.s.now c.move_down.new.s c.fill.new.self c.requires c.move_down.ensures (c.fill.ensures.after (λ y h. h))
