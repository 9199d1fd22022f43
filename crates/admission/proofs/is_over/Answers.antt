-- `admission::is_over` meets its contract: the four counts are tested at once. Assumes nothing.
use Rattle.admission.proofs.Packed.{over-at-once}
use Rattle.admission.proofs.is_over.Goals as goal

pub returns : goal.returns
returns c = over-at-once _ c.requires
