-- `tabled::run` meets its contract: the records of what is left are still to be taken. Assumes nothing.
use Rattle.std.proofs.Common.{◌≡◌}
use Rattle.std.specs.Slice.Iter.{chunks_rest, chunks_size}
use Rattle.records.specs.Event16.{bytes16}
use Rattle.tabled.proofs.Records.{Taking}
use Rattle.tabled.proofs.run.Given as goal

abbrev pub invariant-loop-record : goal.invariant-loop-record
invariant-loop-record l =
    (chunks_size l.record-iterator ≡ bytes16) × Taking l.s l.initial.m l.initial.a l.m l.a (chunks_rest l.record-iterator)
