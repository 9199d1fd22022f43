-- `output::write_text` meets its contract: the lines of the table's rules are the text, and stand in front of what the room held. Assumes nothing.
use mathlib.Core.Path.{◌∙◌}
use Rattle.text.proofs.Written.{sets-front}
use Rattle.writing.specs.Writing.{text_of}
use Rattle.writing.specs.Inner.Parts.{profile_in}
use borrow.Author.Rules.{rules}
use Rattle.writing.proofs.write_text.Goals as goal

pub put_lines-requires : goal.put_lines-requires
unfolding text_of profile_in
put_lines-requires c = record { rules_placed = search rules; rules_in_bounds = c.requires.rules_in_bounds }

pub returns : goal.returns
unfolding text_of profile_in
returns c =
    let text = text_of (profile_in c.args.firm c.args.roots.now c.args.rules.now) in
    record { value = c.put_lines.ensures.value; room_after = c.put_lines.ensures.room_after ∙ sets-front text c.args.room.now c.requires.rules_in_bounds }
