-- `records::ranges::least16` meets its contract: at each kind the numbers are those of its row. Assumes nothing.
use Rattle.records.proofs.Ranged.{least16-row}
use Rattle.records.proofs.ranges.least16.Goals as goal

pub returns : goal.returns
returns c = λ f. rw (c.pick-reports.ensures, c.pick-contracts.ensures, c.pick-premium.ensures) (least16-row _ f)
