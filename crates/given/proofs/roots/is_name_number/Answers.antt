-- `given::is_name_number` meets its contract: the number of its bytes decides, or they do. Assumes nothing.
use Rattle.given.proofs.Eight.{name_out, name_in, size_few}
use Rattle.given.proofs.roots.is_name_number.Goals as goal

pub returns-then-size-least : goal.returns-then-size-least
returns-then-size-least c = name_out _ _ _ _ c.name_size-size.ensures c.if-size-least.true

pub are_name_bytes-requires : goal.are_name_bytes-requires
are_name_bytes-requires c = (size_few _ _ _ c.if-size-least.false c.requires, c.name_size-size.ensures)

pub returns : goal.returns
returns c = name_in _ _ _ _ c.name_size-size.ensures c.if-size-least.false _ c.are_name_bytes.ensures
