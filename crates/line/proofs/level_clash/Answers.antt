-- `line::level_clash` meets its contract: the two tests are one. Assumes nothing.
use mathlib.Core.Path.{refl}
use Rattle.line.specs.Line.{level_clash}
use Rattle.line.proofs.level_clash.Goals as goal

pub returns : goal.returns
unfolding level_clash
returns c = refl
