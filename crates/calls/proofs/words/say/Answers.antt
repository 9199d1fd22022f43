-- `calls::say` meets its contract: the words fit where there is room for 20 bytes. Assumes nothing.
use native.Mathlib.Omega.{arith}
use native.Mathlib.Nat.{zero-add}
use mathlib.Core.Path.{ap, ◌∙◌}
use Rattle.text.proofs.Written.{sets-front}
use Rattle.std.specs.declared.result.Result.TheVariants.{Ok}
use Rattle.calls.proofs.Cases.{say-short, say-done}
use Rattle.calls.proofs.words.say.Goals as goal

pub returns-then-room-lt20 : goal.returns-then-room-lt20
returns-then-room-lt20 c =
    let p = say-short _ _ c.if-room-lt20.true in record { value = p.0; room_after = p.1 }

pub returns : goal.returns
returns c =
    let words = c.args.words.now in
    let room = c.args.room.now in
    let put = c.put_words-size.ensures in
    let d = say-done words room c.if-room-lt20.false in record { value = ap Ok (put.value ∙ zero-add _) ∙ d.0; room_after = put.room_after ∙ sets-front words room (omega (arith, c.requires, c.if-room-lt20.false)) ∙ d.1 }
