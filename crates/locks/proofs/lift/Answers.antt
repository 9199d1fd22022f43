-- `locks::lift` meets its contract: the firm's marks go where the effect lifts them, and then the root's bits. Assumes nothing.
use mathlib.Core.Path.{◌≡◌}
use mathlib.Core.Bool.{cond}
use lib.ListN.{set}
use Rattle.locks.proofs.Numbers.{lifts-on, lifts-off}
use Rattle.locks.proofs.lift.Goals.{Joined-effect, then-effect, else-effect}
use Rattle.locks.proofs.lift.Goals as goal

firm : (c : Joined-effect) → c.if-effect.locks ≡ cond c.args.effect.liftfirm (set (set c.args.locks.now 0 0) 1 0) c.args.locks.now
firm c = elim c.if-effect.branch [ then-effect w ↦ rw w.if-effect.true w.locks-is | else-effect w ↦ rw w.if-effect.false w.locks-is ]

pub returns-then-effect-2 : goal.returns-then-effect-2
returns-then-effect-2 c =
    lifts-on c.requires.0 c.args.root c.args.effect (firm (goal.at.returns-then-effect-2 c).Joined-effect) c.if-effect-2.true c.unmark.ensures c.unmark-then-effect-2.ensures

pub returns-else-effect-2 : goal.returns-else-effect-2
returns-else-effect-2 c =
    lifts-off c.requires.0 c.args.root c.args.effect (firm (goal.at.returns-else-effect-2 c).Joined-effect) c.if-effect-2.false
