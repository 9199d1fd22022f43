-- `text::put_decimal` meets its contract: the digits are written over their place in the room. Assumes nothing.
use Rattle.std.proofs.Common.{ℕ, ◌≡◌, ◌+◌, ◌-◌, length, take, drop, sym, ap, ◌∙◌, arith}
use Rattle.text.specs.Digits.{decimal}
use Rattle.text.specs.Inner.Taking.{last_digits}
use Rattle.text.proofs.Written.{over-place, part-long, decimal-last}
use Rattle.text.proofs.put_decimal.Goals as goal

pub returns-clause-room_after : goal.returns-clause-room_after
returns-clause-room_after c =
    let text = decimal c.args.n in
    let long = part-long c.args.room.now c.args.at (c.args.at + c.decimal_size.result - c.args.at) (length text) (omega arith) c.requires in
    over-place c.args.room.now text c.put_last.new.room c.args.at _
    (c.put_last.ensures ∙ ap (λ (k : ℕ). last_digits 10 48 k c.args.n) long ∙ sym (decimal-last c.args.n)) (omega arith) c.requires
