-- `output::call_put` meets its contract: the test decides. Assumes nothing.
use borrow.Author.Tests.{lt-ltb, le-ltb}
use Rattle.writing.proofs.call_put.Goals as goal

pub returns-then-unit-lt2 : goal.returns-then-unit-lt2
returns-then-unit-lt2 c = rw (lt-ltb _ _ c.if-unit-lt2.true)

pub returns-else-unit-lt2 : goal.returns-else-unit-lt2
returns-else-unit-lt2 c = rw (le-ltb _ _ c.if-unit-lt2.false)
