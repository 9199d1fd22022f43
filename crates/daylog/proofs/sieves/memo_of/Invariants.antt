-- `daylog::memo_of` meets its contract: in each measure, what is summed from place i on, with what the reading still passes before it, is the whole; and so
-- many as it passes are left to sum, which is the measure. Assumes nothing.
use Prim.Native.Nat.{◌+◌, ◌-◌}
use mathlib.Core.Path.{◌≡◌}
use lib.ListN.{length}
use Rattle.daylog.specs.Inner.Log.{entries_of}
use Rattle.daylog.specs.Newest.{newest}
use Rattle.daylog.specs.Inner.Sieve.{sifted}
use Rattle.daylog.proofs.Sums.{Summed}
use Rattle.daylog.proofs.Memos.{in_dollars, in_contracts, in_executions}
use Rattle.daylog.proofs.sieves.memo_of.Given as goal

abbrev pub invariant-loop-i : goal.invariant-loop-i
invariant-loop-i l =
    Summed (sifted in_dollars l.s) l.s.from l.k l.log l.i l.notional.0 × Summed (sifted in_contracts l.s) l.s.from l.k l.log l.i l.volume.0
    × Summed (sifted in_executions l.s) l.s.from l.k l.log l.i l.count.0 × (l.k - l.i + length (newest l.s.from (entries_of l.i l.log)) ≡ l.passed)
