-- `profile::scope_numbered` meets its contract, by the kinds of scope. Assumes nothing.
use Rattle.profile.specs.Profile.{numbered}
use Rattle.profile.proofs.scope_numbered.Goals as goal

pub returns-in-EveryFill : goal.returns-in-EveryFill
unfolding numbered
returns-in-EveryFill c = rw c.in-EveryFill.is

pub returns-in-WholeRoot : goal.returns-in-WholeRoot
unfolding numbered
returns-in-WholeRoot c = rw (c.likely_number.ensures, c.in-WholeRoot.is)

pub returns-in-OneUnit : goal.returns-in-OneUnit
unfolding numbered
returns-in-OneUnit c = rw (c.likely_number-in-OneUnit.ensures, c.in-OneUnit.is)
