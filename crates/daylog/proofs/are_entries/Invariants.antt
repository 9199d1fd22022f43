-- `daylog::are_entries` meets its contract: what is left from place i on decides as the whole does. Assumes nothing.
use Prim.Native.Nat.{◌≤◌, ◌<◌}
use mathlib.Core.Path.{◌≡◌}
use mathlib.Core.Bool.{◌&&◌}
use Rattle.packing.specs.Gaps.{is_clear}
use Rattle.daylog.proofs.Order.{left_holds, from_holds}
use Rattle.daylog.proofs.are_entries.Given as goal

abbrev pub invariant-loop-i : goal.invariant-loop-i
invariant-loop-i l =
    (l.i ≤ l.k) × (l.from < 9_223_372_036_854_775_808) × (left_holds l.roots l.clock l.k l.log 0 0 ≡ (is_clear l.gaps && from_holds l.roots l.clock l.k l.log l.from l.i))
