-- `given::is_fresh` meets its contract: what was found so far and the names from place i on decide as all of them do. Assumes nothing.
use mathlib.Core.Path.{refl, sym, ◌∙◌}
use Rattle.given.proofs.Places.{fresh_on, fresh-end}
use Rattle.given.proofs.roots.is_fresh.Goals as goal

pub loop-other-init : goal.loop-other-init
loop-other-init c = refl

pub loop-other-preserved : goal.loop-other-preserved
loop-other-preserved c = sym (fresh_on _ _ c.loop-other.fresh _ c.loop-other-test.true) ∙ c.loop-other.invariant

pub returns : goal.returns
returns c = sym (fresh-end _ _ c.loop-other.fresh _ c.loop-other-test.false) ∙ c.loop-other.invariant
