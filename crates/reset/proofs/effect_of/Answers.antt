-- `reset::effect_of` meets its contract: the table of the resets by tests of the number. Assumes nothing.
use mathlib.Core.Path.{sym}
use Rattle.machine.proofs.Effects.{effect-tests}
use Rattle.reset.proofs.effect_of.Goals as goal

pub returns : goal.returns
returns c = sym (effect-tests _)
