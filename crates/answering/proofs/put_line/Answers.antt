-- `answering::put_line` meets its contract: the place's digits, then the answer's numbers. Assumes nothing.
use Prim.Native.Nat.{◌+◌}
use mathlib.Core.Path.{◌≡◌, ap, ◌∙◌}
use lib.ListN.{length}
use lib.Seq.{sets}
use native.Mathlib.Omega.{arith}
use Rattle.machine.specs.Answer.{answer_told}
use Rattle.machine.specs.Judge.{numbers}
use Rattle.text.specs.Digits.{decimal}
use Rattle.text.proofs.Decimal.{decimal-few}
use Rattle.text.proofs.Written.{then-written}
use Rattle.rows.proofs.Told.{mapped_told}
use Rattle.answering.specs.Lines.{spaced, record_line}
use Rattle.answering.proofs.Texts.{five}
use Rattle.answering.proofs.put_line.Goals.{After-put_answer}
use Rattle.answering.proofs.put_line.Goals as goal

-- the row tells the answer, whose refusal was told by its number
told : (t : After-put_answer) → t.put_answer.new.row ≡ numbers (answer_told t.args.answer)
told t = t.put_answer.ensures ∙ ap numbers (mapped_told _ _ t.map_err.ensures.cases)

pub put_decimal-next-requires : goal.put_decimal-next-requires
put_decimal-next-requires c =
    let s = c in
    omega (arith, s.requires, decimal-few s.args.place)

pub slice_bounds-put_spaced-end : goal.slice_bounds-put_spaced-end
slice_bounds-put_spaced-end c = five (answer_told c.args.answer) (told (goal.at.slice_bounds-put_spaced-end c).After-put_answer)

pub put_spaced-requires : goal.put_spaced-requires
put_spaced-requires c = omega (arith, c.requires, five (answer_told c.args.answer) (told (goal.at.put_spaced-requires c).After-put_answer), c.put_decimal-next.ensures.value, c.put_decimal-next.auto.room, decimal-few c.args.place)

pub returns : goal.returns
unfolding record_line
returns c =
    let place = c.args.place in
    let row = told (goal.at.returns c).After-put_answer in
    let short = decimal-few place in
    let near = c.put_spaced.ensures.upper_bound in
    let is =
    then-written c.args.room.now (decimal place) (spaced (numbers (answer_told c.args.answer))) c.args.at c.put_decimal-next.ensures.value c.put_decimal-next.ensures.room_after (c.put_spaced.ensures.value ∙ ap (λ l. c.put_decimal-next.result + length (spaced l)) row)
    (c.put_spaced.ensures.room_after ∙ ap (λ l. sets c.put_decimal-next.new.room c.put_decimal-next.result (spaced l)) row)
    in
    record { line = record { short = omega (arith, near, five (answer_told c.args.answer) row, c.put_decimal-next.ensures.value); inside = omega (arith, near, five (answer_told c.args.answer) row, c.put_decimal-next.ensures.value, c.requires) }; value = is.0; room_after = is.1 }
