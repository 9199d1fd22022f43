-- The contracts of `accounted` determine what a call gives: one theorem for each public function. Assumes nothing.
use Rattle.determined.specs.Determines.{Determines}
use Rattle.laws.proofs.One.{alike}
use Rattle.machine.proofs.Told.{one_told}
use Rattle.accounted.proofs.apply.Kinds as apply-kinds
use Rattle.accounted.proofs.apply.Reads as apply-reads

pub apply : Determines 2 apply-kinds.ps apply-kinds.r apply-reads.Asked apply-reads.Learnt
apply κs args asked x y u v p q = (one_told x y (alike p.0 q.0), λ i. (alike p.1.0 q.1.0 i, (alike p.1.1 q.1.1 i, v.1.1)))
