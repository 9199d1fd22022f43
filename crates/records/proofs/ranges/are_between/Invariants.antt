-- `records::ranges::are_between` meets its contract: what was tested so far, and what is left, is the whole. Assumes nothing.
use Prim.Native.Nat.{◌≤◌, ◌-◌}
use mathlib.Core.Path.{◌≡◌}
use mathlib.Core.Bool.{◌&&◌}
use lib.ListN.{length}
use Rattle.records.specs.Inner.Ranges.{are_between}
use Rattle.records.proofs.Ranged.{left}
use Rattle.records.proofs.ranges.are_between.Given as goal

abbrev pub invariant-loop-i : goal.invariant-loop-i
invariant-loop-i l = (l.good && left l.least l.most l.v l.i) ≡ are_between l.least l.most l.v
