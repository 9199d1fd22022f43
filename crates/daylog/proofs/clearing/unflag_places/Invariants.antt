-- `daylog::unflag_places` meets its contract: what came of the first i entries stands in front, the others as they were, and at the end the places after those that stay are set to 0. Assumes nothing.
use Prim.Native.Nat.{◌≤◌}
use mathlib.Core.Path.{◌≡◌}
use lib.ListN.{length}
use Rattle.machine.specs.Effects.{zeroing}
use Rattle.machine.specs.Order.{unflagged_log}
use Rattle.daylog.proofs.Turns.{Turned}
use Rattle.daylog.proofs.clearing.unflag_places.Given as goal

abbrev pub invariant-loop-i : goal.invariant-loop-i
invariant-loop-i l = (l.i ≤ l.k) × (length l.log ≡ 1024) × Turned (unflagged_log (zeroing l.effect l.root)) l.k l.initial.log l.i l.kept l.log
