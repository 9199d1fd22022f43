-- `answering::put_refused` meets its contract: the words and the numbers one after the other. Assumes nothing.
use mathlib.Core.Path.{◌∙◌}
use mathlib.Core.List.{[], ◌∷◌}
use native.Mathlib.Nat.{zero-add}
use native.Mathlib.Omega.{arith}
use Rattle.refusals.specs.Numbers.{refusal_number}
use Rattle.text.specs.Text.{bytes}
use Rattle.text.proofs.Written.{then-written}
use Rattle.answering.specs.Lines.{spaced, arm_line}
use Rattle.answering.proofs.put_refused.Goals as goal

pub returns : goal.returns
unfolding arm_line
returns c =
    let numbers = spaced (refusal_number c.args.fault.refusal ∷ c.args.fault.line ∷ []) in
    let is = then-written c.args.room.now (bytes "refused") numbers 0 c.put_words-numbers.ensures.value c.put_words-numbers.ensures.room_after (rw c.number.ensures at c.put_spaced.ensures.value) (rw c.number.ensures at c.put_spaced.ensures.room_after) in record { fits_room = record { inside = omega (arith, c.put_spaced.ensures.upper_bound, c.put_words-numbers.ensures.value) }; value = is.0 ∙ zero-add _; room_after = is.1 }
