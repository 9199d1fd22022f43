-- `answering::put_armed` meets its contract: the words, the firm's name and the numbers one after the other. Assumes nothing.
use mathlib.Core.Path.{◌∙◌}
use mathlib.Core.List.{[], ◌∷◌, ◌++◌}
use native.Mathlib.Nat.{zero-add}
use native.Mathlib.Omega.{arith}
use Rattle.text.specs.Text.{bytes}
use Rattle.text.specs.Digits.{name_bytes}
use Rattle.text.proofs.Written.{then-written}
use Rattle.given.proofs.Names.{name-few}
use Rattle.answering.specs.Lines.{spaced, arm_line}
use Rattle.answering.proofs.put_armed.Goals as goal

pub put_name-numbers-requires : goal.put_name-numbers-requires
put_name-numbers-requires c = omega (arith, c.requires, c.put_words-name.ensures.value, c.put_words-name.auto.room, name-few c.args.armed.firm)

pub put_spaced-requires : goal.put_spaced-requires
put_spaced-requires c = omega (arith, c.requires, c.put_words-name.ensures.value, c.put_words-name.auto.room, c.put_name-numbers.ensures.value, c.put_name-numbers.auto.room, name-few c.args.armed.firm)

pub returns : goal.returns
unfolding arm_line
returns c =
    let firm = c.args.armed.firm in
    let numbers = spaced (c.args.armed.rules ∷ c.args.armed.roots ∷ []) in
    let few = name-few firm in
    let after = then-written c.put_words-name.new.room (name_bytes firm) numbers c.put_words-name.result c.put_name-numbers.ensures.value c.put_name-numbers.ensures.room_after c.put_spaced.ensures.value c.put_spaced.ensures.room_after in
    let is = then-written c.args.room.now (bytes "armed ") (name_bytes firm ++ numbers) 0 c.put_words-name.ensures.value c.put_words-name.ensures.room_after after.0 after.1 in record { fits_room = record { inside = omega (arith, c.put_spaced.ensures.upper_bound, c.put_name-numbers.ensures.value, c.put_words-name.ensures.value) }; value = is.0 ∙ zero-add _; room_after = is.1 }
