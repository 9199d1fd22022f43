-- `text::put_name` meets its contract: the digits are written over their place in the room. Assumes nothing.
use Rattle.std.proofs.Common.{ℕ, ◌≡◌, ◌+◌, ◌-◌, length, take, drop, sym, ap, ◌∙◌, arith}
use Rattle.text.specs.Digits.{name_bytes}
use Rattle.text.specs.Inner.Taking.{last_digits}
use Rattle.text.proofs.Written.{over-place, part-long, name-last}
use Rattle.text.proofs.put_name.Goals as goal

pub returns-clause-room_after : goal.returns-clause-room_after
returns-clause-room_after c =
    let text = name_bytes c.args.name in
    let long = part-long c.args.room.now c.args.at (c.args.at + c.name_size.result - c.args.at) (length text) (omega arith) c.requires in
    over-place c.args.room.now text c.put_last.new.room c.args.at _
    (c.put_last.ensures ∙ ap (λ (k : ℕ). last_digits 256 0 k c.args.name) long ∙ sym (name-last c.args.name)) (omega arith) c.requires
