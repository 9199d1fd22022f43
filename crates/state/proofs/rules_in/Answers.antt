-- `state::rules_in` meets its contract: the rules' table has its count in front. Assumes nothing.
use Rattle.state.proofs.Laid.{laid-rules}
use Rattle.state.proofs.rules_in.Goals as goal

pub returns : goal.returns
returns c = laid-rules c.requires
