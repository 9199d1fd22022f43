-- `register::close` meets its contract: the orders after it move up over it, and the count is one less. Assumes nothing.
use Rattle.register.proofs.Changing.{closed-numbers}
use Rattle.register.proofs.close.Goals as goal

pub returns : goal.returns
returns c = closed-numbers c.args.register.now c.args.i _ c.requires.0 c.requires.1 c.requires.2 c.move_up.ensures
