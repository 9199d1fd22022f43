-- `profile::firm_beside` meets its contract: none if the other has the name. Assumes nothing.
use borrow.Author.Tests.{eq-eqb, ne_eqb}
use Rattle.profile.proofs.firm_beside.Goals as goal

pub returns-then-named-other : goal.returns-then-named-other
returns-then-named-other c = rw (eq-eqb _ _ c.if-named-other.true)

pub returns : goal.returns
returns c = rw (ne_eqb _ _ c.if-named-other.false)
