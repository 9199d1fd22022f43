-- `daylog::since` meets its contract: those from a place on are passed, with those that are still to be passed before it. Each turn looks at four entries at
-- most, and all that were looked at so far are passed, so these and what is still to be looked at are as many as the reading looks at. Assumes nothing.
use Prim.Native.Nat.{◌+◌, ◌-◌, ◌*◌}
use mathlib.Core.Path.{◌≡◌}
use lib.ListN.{length}
use Rattle.daylog.specs.Inner.Log.{entries_of}
use Rattle.daylog.specs.Newest.{newest, looked_at}
use Rattle.daylog.proofs.windows.since.Given as goal

abbrev pub invariant-loop-turn : goal.invariant-loop-turn
invariant-loop-turn l = record {
  passes : l.turn * 4 + length (newest l.first (entries_of (l.k - l.turn * 4) l.log)) ≡ length (newest l.first (entries_of l.k l.log));
  looks : l.turn * 4 + looked_at l.first (entries_of (l.k - l.turn * 4) l.log) ≡ looked_at l.first (entries_of l.k l.log);
}
