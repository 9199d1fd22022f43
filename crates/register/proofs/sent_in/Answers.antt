-- `register::sent_in` meets its contract: the order of the place's two numbers. Assumes nothing.
use Prim.Native.Nat.{◌<◌}
use mathlib.Core.Path.{◌∙◌}
use native.Mathlib.Omega.{arith}
use lib.ListN.{get_or}
use Rattle.register.proofs.Registers.{register-many, numbers-at}
use Rattle.register.proofs.sent_in.Goals as goal

pub returns : goal.returns
returns c =
    let xs = c.args.register.now in
    let used : c.args.i < get_or xs 0 0 = omega (arith, register-many xs) in
    c.sent_of.ensures ∙ numbers-at (get_or xs 0 0) xs c.args.i used (omega (arith, c.requires.0.few, c.requires.0.long))
