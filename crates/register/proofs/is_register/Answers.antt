-- `register::is_register` meets its contract: a count that is too large decides, else the orders and their identities do. Assumes nothing.
use Rattle.register.proofs.Registers.{register-over, register-within}
use Rattle.register.proofs.is_register.Goals as goal

pub returns-then-k-gt-PLACES : goal.returns-then-k-gt-PLACES
returns-then-k-gt-PLACES c = register-over _ _ c.if-k-gt-PLACES.true

pub returns : goal.returns
returns c =
    register-within c.args.roots c.args.register.now c.requires c.if-k-gt-PLACES.false _ _ c.are_orders.ensures c.are_different.ensures
