-- `state::name_in` meets its contract: the names stand past their count. Assumes nothing.
use Rattle.state.proofs.Laid.{laid-name}
use Rattle.state.proofs.name_in.Goals as goal

pub returns : goal.returns
returns c = laid-name c.requires.0 _ c.requires.1
