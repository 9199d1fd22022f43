-- `given::are_roots` meets its contract: a count that is too large decides, else the places do. Assumes nothing.
use Rattle.given.proofs.Counts.{roots-many, roots_few}
use Rattle.given.proofs.roots.are_roots.Goals as goal

pub returns-then-n-gt64 : goal.returns-then-n-gt64
returns-then-n-gt64 c = roots-many _ c.if-n-gt64.true

pub returns : goal.returns
returns c = roots_few _ c.if-n-gt64.false _ c.names_hold.ensures
