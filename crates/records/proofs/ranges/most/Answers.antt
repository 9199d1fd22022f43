-- `records::ranges::most` meets its contract: at each kind the numbers are those of its row. Assumes nothing.
use Rattle.records.proofs.Ranged.{most-row}
use mathlib.Core.Path.{refl}
use Rattle.records.proofs.ranges.most.Goals as goal

pub returns : goal.returns
returns c = record { result_value = refl; value = λ f. rw (c.pick-5.ensures, c.pick-4.ensures, c.pick-3.ensures, c.pick-2.ensures, c.pick.ensures) (most-row _ f) }
