-- `reset::wipe` meets its contract: the accounts of the first i rules are wiped, and the others stand as they were. Assumes nothing.
use Prim.Native.Nat.{◌-◌}
use mathlib.Core.Path.{◌≡◌}
use lib.ListN.{length}
use Rattle.machine.specs.State.{rules_in}
use Rattle.machine.specs.Remaining.{first_cell}
use Rattle.machine.specs.Effects.{zeroing}
use Rattle.machine.specs.Order.{wiped}
use Rattle.state.specs.State.{decode}
use Rattle.state.proofs.Done.{Doing}
use borrow.Author.Rules.{rules}
use Rattle.reset.proofs.wipe.Given as goal

abbrev pub invariant-loop-i : goal.invariant-loop-i
invariant-loop-i l =
    (l.rules ≡ length (rules_in (decode l.initial.m))) × (l.place ≡ first_cell (rules_in (decode l.initial.m)) l.i) × Doing (wiped (zeroing l.effect l.root)) l.initial.m l.place l.m
