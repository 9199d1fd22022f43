-- `output::letters_size` meets its contract: a scope by its case. Assumes nothing.
use Rattle.writing.proofs.Cut.{letters-every, letters-whole, letters-unit}
use Rattle.writing.proofs.letters_size.Goals as goal

pub returns-in-EveryFill : goal.returns-in-EveryFill
returns-in-EveryFill c = rw (c.in-EveryFill.is, letters-every)

pub returns-in-WholeRoot : goal.returns-in-WholeRoot
returns-in-WholeRoot c = rw (c.in-WholeRoot.is, letters-whole)

pub returns-in-OneUnit : goal.returns-in-OneUnit
returns-in-OneUnit c = rw (c.in-OneUnit.is, letters-unit)
