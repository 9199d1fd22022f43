-- `writing::type_words` meets its contract: a kind and a limit by their cases. Assumes nothing.
use Rattle.writing.specs.Writing.{type_name}
use Rattle.writing.proofs.type_words.Goals as goal

pub returns-in-Notional : goal.returns-in-Notional
unfolding type_name
returns-in-Notional c = rw (c.in-Rate.is, c.in-Notional.is)

pub returns-in-Volume : goal.returns-in-Volume
unfolding type_name
returns-in-Volume c = rw (c.in-Rate.is, c.in-Volume.is)

pub returns-in-Count : goal.returns-in-Count
unfolding type_name
returns-in-Count c = rw (c.in-Rate.is, c.in-Count.is)

pub returns-in-Notional-limit : goal.returns-in-Notional-limit
unfolding type_name
returns-in-Notional-limit c = rw (c.in-Absolute.is, c.in-Notional-limit.is)

pub returns-in-Volume-limit : goal.returns-in-Volume-limit
unfolding type_name
returns-in-Volume-limit c = rw (c.in-Absolute.is, c.in-Volume-limit.is)

pub returns-in-Count-limit : goal.returns-in-Count-limit
unfolding type_name
returns-in-Count-limit c = rw (c.in-Absolute.is, c.in-Count-limit.is)
