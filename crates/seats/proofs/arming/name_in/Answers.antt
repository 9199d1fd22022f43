-- `arming::name_in` meets its contract: the name, or 0 where no firm is armed. Assumes nothing.
use Rattle.seats.proofs.Armable.{no_name, its-name}
use Rattle.seats.proofs.arming.name_in.Goals as goal

pub returns-then-s-eq0 : goal.returns-then-s-eq0
returns-then-s-eq0 c = no_name _ c.if-s-eq0.true

pub returns : goal.returns
returns c = its-name _ c.if-s-eq0.false
