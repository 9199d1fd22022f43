-- `answering::run` meets its contract: so many records of what is left are still to be answered. Assumes nothing.
use Rattle.std.proofs.Common.{◌≡◌}
use Rattle.std.specs.Iterator.Adapters.{take_source, take_count}
use Rattle.std.specs.Slice.Iter.{chunks_rest, chunks_size}
use Rattle.records.specs.Event16.{bytes16}
use Rattle.answering.proofs.Runs.{Running}
use Rattle.answering.proofs.run.Given as goal

abbrev pub invariant-loop-record : goal.invariant-loop-record
invariant-loop-record l =
    (chunks_size (take_source l.record-iterator) ≡ bytes16)
    × Running l.s l.initial.m l.initial.room l.m l.room (chunks_rest (take_source l.record-iterator)) l.place l.count l.to l.next (take_count l.record-iterator)
