-- `profile::likely_number` meets its contract: the newest name's first place is its own. Assumes nothing.
use mathlib.Core.Path.{sym}
use borrow.Author.Rules.{rules}
use Rattle.profile.specs.Inner.Lawful.{NewestOnce}
use Rattle.profile.proofs.likely_number.Goals as goal

pub returns-then-names-newest : goal.returns-then-names-newest
unfolding NewestOnce
returns-then-names-newest c = sym (rw c.if-names-newest.true at (c.requires (search rules)))
