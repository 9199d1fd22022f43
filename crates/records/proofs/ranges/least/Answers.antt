-- `records::ranges::least` meets its contract: at each kind the numbers are those of its row. Assumes nothing.
use Rattle.records.proofs.Ranged.{least-row}
use Rattle.records.proofs.ranges.least.Goals as goal

pub returns : goal.returns
returns c = λ f. rw (c.pick-premium.ensures, c.pick-contracts.ensures) (least-row _ f)
