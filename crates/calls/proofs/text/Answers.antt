-- `calls::text` meets its contract: the verdict picks the words. Assumes nothing.
use borrow.Author.Tests.{eq-eqb, ne_eqb}
use Rattle.calls.specs.Calls.{text_answer, text_memory}
use Rattle.calls.proofs.text.Goals as goal

pub returns-then-verdict-eq1 : goal.returns-then-verdict-eq1
unfolding text_answer text_memory
returns-then-verdict-eq1 c =
    let one = eq-eqb _ _ c.if-verdict-eq1.true in record { value = rw one c.say.ensures.value; room_after = rw one c.say.ensures.room_after }

pub returns-then-verdict-eq2 : goal.returns-then-verdict-eq2
unfolding text_answer text_memory
returns-then-verdict-eq2 c =
    let one = ne_eqb _ _ c.if-verdict-eq1.false in
    let two = eq-eqb _ _ c.if-verdict-eq2.true in record { value = rw (one, two) c.say-then-verdict-eq2.ensures.value; room_after = rw (one, two) c.say-then-verdict-eq2.ensures.room_after }

pub returns : goal.returns
unfolding text_answer text_memory
returns c =
    let one = ne_eqb _ _ c.if-verdict-eq1.false in
    let two = ne_eqb _ _ c.if-verdict-eq2.false in record { value = rw (one, two); room_after = rw (one, two) }
