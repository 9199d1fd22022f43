-- `locks::standing` meets its contract: two of the numbers are the words of the roots. Assumes nothing.
use mathlib.Core.Path.{ap₂, ◌∙◌}
use Rattle.bits.specs.Locks.{standing_of}
use Rattle.machine.specs.Remaining.{standing}
use Rattle.locks.proofs.Numbers.{trip-word, user-word}
use Rattle.locks.proofs.standing.Goals as goal

pub returns : goal.returns
unfolding standing
returns c = c.locked_roots.ensures ∙ ap₂ standing_of (trip-word c.requires) (user-word c.requires)
