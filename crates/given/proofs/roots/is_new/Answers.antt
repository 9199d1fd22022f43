-- `given::is_new` meets its contract: a name that is not marked is new. Assumes nothing.
use mathlib.Core.Path.{sym}
use Rattle.given.proofs.roots.is_new.Goals as goal

pub returns-then-not-marked : goal.returns-then-not-marked
returns-then-not-marked c = rw c.if-not-marked.true (sym (c.requires c.if-not-marked.true))
