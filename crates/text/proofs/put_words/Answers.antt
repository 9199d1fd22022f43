-- `text::put_words` meets its contract: the words are copied over their place in the room. Assumes nothing.
use Rattle.std.proofs.Common.{arith}
use Rattle.text.proofs.Written.{over-place}
use Rattle.text.proofs.put_words.Goals as goal

pub returns-clause-room_after : goal.returns-clause-room_after
returns-clause-room_after c =
    over-place c.args.room.now c.args.words.now c.copy_from_slice.new.self c.args.at _ c.copy_from_slice.ensures.after (omega arith) c.requires
