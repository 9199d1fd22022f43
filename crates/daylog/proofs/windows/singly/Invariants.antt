-- `daylog::singly` meets its contract: those from a place on are passed, with those that are still to be passed before it. Each turn looks at one entry, so
-- the turns made and the entries still to be looked at are as many as the reading looks at. Assumes nothing.
use Prim.Native.Nat.{◌+◌, ◌-◌}
use mathlib.Core.Path.{◌≡◌}
use lib.ListN.{length}
use Rattle.daylog.specs.Inner.Log.{entries_of}
use Rattle.daylog.specs.Newest.{newest, looked_at}
use Rattle.daylog.proofs.windows.singly.Given as goal

abbrev pub invariant-loop-i : goal.invariant-loop-i
invariant-loop-i l = record {
  passes : l.k - l.i + length (newest l.first (entries_of l.i l.log)) ≡ length (newest l.first (entries_of l.k l.log));
  looks : l.k - l.i + looked_at l.first (entries_of l.i l.log) ≡ looked_at l.first (entries_of l.k l.log);
}
