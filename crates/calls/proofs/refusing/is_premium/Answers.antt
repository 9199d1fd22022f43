-- `calls::is_premium` meets its contract: the constructor takes the numbers of the range and no others. Assumes nothing.
use mathlib.Core.Path.{◌∙◌}
use Rattle.measures.specs.Ranges.{premiums}
use Rattle.measures.proofs.Determined.{checked-test}
use Rattle.calls.proofs.refusing.is_premium.Goals as goal

pub returns : goal.returns
returns c = c.is_some.ensures ∙ checked-test _ premiums _ _ c.premium.ensures
