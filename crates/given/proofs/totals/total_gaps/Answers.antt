-- `given::total_gaps` meets its contract: the gap below the most, and a number that is itself too large. Assumes nothing.
use Rattle.given.proofs.Paid.{total-clear}
use Rattle.given.proofs.totals.total_gaps.Goals as goal

pub returns : goal.returns
returns c = total-clear _ _ _ c.total_most.ensures c.gap.ensures
