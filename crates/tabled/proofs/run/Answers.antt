-- `tabled::run` meets its contract: the records of what is left are still to be taken. Assumes nothing.
use Rattle.std.proofs.Common.{ℕ, ◌≡◌, ◌∙◌, ap, length, min}
use Rattle.std.specs.Slice.Iter.{chunks_rest, chunks_size}
use Rattle.records.specs.Event16.{bytes16}
use Rattle.tabled.proofs.Records.{taking-none, taking-on, taking-end}
use Rattle.tabled.proofs.run.Goals as goal

pub loop-record-init : goal.loop-record-init
loop-record-init c =
    let it = c.into_iter-record-iterator.result in
    let given = c.into_iter-record-iterator.ensures.into_iter_gives in
    let size : chunks_size it ≡ bytes16 = rw given c.chunks-record-items.ensures.size in
    let rest : chunks_rest it ≡ c.args.s.now = rw given c.chunks-record-items.ensures.rest in
    (size, taking-none _ _ rest)

pub loop-record-preserved : goal.loop-record-preserved
loop-record-preserved c =
    let before = c.loop-record.invariant in
    let steps = c.in-Some.ensures.steps in
    let left = chunks_rest c.loop-record.record-iterator in
    let cuts : length c.in-Some.record.now ≡ min bytes16 (length left) = steps.1.1 ∙ ap (λ (n : ℕ). min n (length left)) before.0 in (
      steps.0 ∙ before.0,
      taking-on before.1 c.in-Some.record.now _ steps.1.0 cuts steps.1.2 c.take_record.new.m c.take_record.new.a c.take_record.auto.m c.take_record.auto.a
          c.take_record.ensures.m_after c.take_record.ensures.a_after,
    )

pub returns : goal.returns
returns c =
    let d = taking-end c.loop-record.invariant.1 c.in-None.ensures.steps.1.0 in
    record { m_after = d.0; a_after = d.1 }
