-- `records::moves::widened` meets its contract: the fields stand in the new form, the time by times 1000. Assumes nothing.
use mathlib.Core.Path.{refl}
use Rattle.records.specs.Moves.{widened}
use Rattle.records.proofs.moves.widened.Goals as goal

pub returns : goal.returns
unfolding widened
returns c = refl
