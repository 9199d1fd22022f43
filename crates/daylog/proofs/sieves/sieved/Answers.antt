-- `daylog::sieved` meets its contract: the test is that of the sieve. Assumes nothing.
use borrow.Author.Tests.{eq-eqb, ne_eqb}
use Rattle.daylog.proofs.sieves.sieved.Goals as goal

pub returns-then-fill-s : goal.returns-then-fill-s
returns-then-fill-s c = rw (eq-eqb _ _ c.if-fill-s.true)

pub returns-else-fill-s : goal.returns-else-fill-s
returns-else-fill-s c = rw (ne_eqb _ _ c.if-fill-s.false)
