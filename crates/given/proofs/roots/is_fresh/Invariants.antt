-- `given::is_fresh` meets its contract: what was found so far and the names from place i on decide as all of them do. Assumes nothing.
use mathlib.Core.Bool.{◌&&◌}
use mathlib.Core.Path.{◌≡◌}
use lib.ListN.{drop}
use Rattle.given.specs.Given.{is_fresh}
use Rattle.given.proofs.roots.is_fresh.Given as goal

abbrev pub invariant-loop-other : goal.invariant-loop-other
invariant-loop-other l = (l.fresh && is_fresh l.name (drop l.other-index l.names)) ≡ is_fresh l.name l.names
