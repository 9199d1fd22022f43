-- `output::month` meets its contract: the test decides. Assumes nothing.
use Rattle.writing.proofs.month.Goals as goal

pub returns-then-unit : goal.returns-then-unit
returns-then-unit c = rw c.if-unit.true

pub returns-else-unit : goal.returns-else-unit
returns-else-unit c = rw c.if-unit.false
