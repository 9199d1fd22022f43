-- `answering::run` meets its contract: so many records of what is left are still to be answered. Assumes nothing.
use Rattle.std.proofs.Common.{ℕ, ◌≡◌, ◌+◌, ◌≤◌, ◌∙◌, ap, arith, length, min}
use Rattle.std.proofs.lemmas.List.Edits.{sets}
use Rattle.std.specs.Iterator.Adapters.{take_source, take_count}
use Rattle.std.specs.Slice.Iter.{chunks_rest, chunks_size}
use Rattle.records.specs.Event16.{bytes16}
use Rattle.machine.specs.Answer.{Answer}
use Rattle.answering.specs.Lines.{record_line}
use Rattle.answering.specs.Run.{record_count}
use Rattle.answering.proofs.Runs.{running_none, running-on, running-end, no_more, ran, fitting-records, fitting-room, fitting-places}
use Rattle.answering.proofs.run.Goals as goal

pub loop-record-init : goal.loop-record-init
loop-record-init c =
    let it = c.into_iter-record-iterator.result in
    let given = c.into_iter-record-iterator.ensures.into_iter_gives in
    let size : chunks_size (take_source it) ≡ bytes16 = rw (given, c.take-record-items.ensures.source) c.chunks.ensures.size in
    let rest : chunks_rest (take_source it) ≡ c.args.s.now = rw (given, c.take-record-items.ensures.source) c.chunks.ensures.rest in
    let few : take_count it ≡ c.fitting-count.result = rw given c.take-record-items.ensures.count in
    let enough : c.fitting-count.result ≤ record_count (length c.args.s.now) =
    omega (arith, c.fitting-count.ensures, fitting-records c.args.place (length c.args.s.now) (length c.args.room.now))
    in
    (size, running_none _ _ _ rest few enough)

pub put_line-to-requires : goal.put_line-to-requires
put_line-to-requires c =
    let w = c.loop-record.invariant.1 in
    omega (
      arith,
      w.near,
      w.long,
      c.in-Some.ensures.steps.1,
      c.fitting-count.ensures,
      fitting-room c.args.place (length c.args.s.now) (length c.args.room.now),
    )

pub overflow_add-next : goal.overflow_add-next
overflow_add-next c =
    omega (
      arith,
      c.loop-record.invariant.1.counted,
      c.in-Some.ensures.steps.1,
      c.fitting-count.ensures,
      fitting-places c.args.place (length c.args.s.now) (length c.args.room.now) c.ranges.place.fits,
    )

pub loop-record-preserved : goal.loop-record-preserved
loop-record-preserved c =
    let m = c.loop-record.m in
    let piece = c.in-Some.record.now in
    let steps = c.in-Some.ensures.steps in
    let before = c.loop-record.invariant in
    let left = chunks_rest (take_source c.loop-record.record-iterator) in
    let cuts : length piece ≡ min bytes16 (length left) = steps.0.1.1 ∙ ap (λ (n : ℕ). min n (length left)) before.0 in
    let is = c.answer_record.ensures.value in (
      steps.0.0 ∙ before.0,
      running-on before.1 piece _ _ steps.0.1.0 cuts steps.1 c.answer_record.new.m c.put_line-to.new.room c.put_line-to.result
          c.answer_record.auto.m c.answer_record.ensures.m_after c.put_line-to.ensures.line
          (c.put_line-to.ensures.value ∙ ap (λ (a : Answer). c.loop-record.to + length (record_line c.loop-record.next a)) is)
          (c.put_line-to.ensures.room_after ∙ ap (λ (a : Answer). sets c.loop-record.room c.loop-record.to (record_line c.loop-record.next a)) is),
    )

pub returns : goal.returns
returns c =
    let place = c.args.place in
    let bytes = length c.args.s.now in
    let room = length c.args.room.now in
    let w = c.loop-record.invariant.1 in
    let none = no_more _ _ w.enough (λ some. (c.in-None.ensures.steps some).1.0) in
    let inside : c.loop-record.to ≤ room = omega (arith, w.near, none, c.fitting-count.ensures, fitting-room place bytes room) in
    let d = ran (running-end w none inside) c.fitting-count.ensures in
    record {
      fitted = record { inside = inside; counted = omega (arith, fitting-places place bytes room c.ranges.place.fits, c.fitting-count.ensures) };
      value = d.0;
      m_after = d.1.0;
      room_after = d.1.1;
    }
