-- The contracts of `counting` determine what a call gives: one theorem for each public function. Assumes nothing.
use mathlib.Core.Path.{refl}
use Rattle.determined.specs.Determines.{Determines}
use Rattle.laws.proofs.One.{alike}
use Rattle.counting.proofs.counted_by.Kinds as counted-by-kinds
use Rattle.counting.proofs.counted_by.Reads as counted-by-reads
use Rattle.counting.proofs.left.Kinds as left-kinds
use Rattle.counting.proofs.left.Reads as left-reads
use Rattle.counting.proofs.counted_at.Kinds as counted-at-kinds
use Rattle.counting.proofs.counted_at.Reads as counted-at-reads

pub counted-by : Determines 2 counted-by-kinds.ps counted-by-kinds.r counted-by-reads.Asked counted-by-reads.Learnt
counted-by κs args asked x y u v p q = (alike p.0 q.0, λ i. (v.0, (v.1.0, (v.1.1.0, (v.1.1.1.0, (alike p.1.1 q.1.1 i, v.1.1.1.1.1))))))

pub left : Determines 1 left-kinds.ps left-kinds.r left-reads.Asked left-reads.Learnt
left κs args asked x y u v p q = (alike p q, refl)

pub counted-at : Determines 1 counted-at-kinds.ps counted-at-kinds.r counted-at-reads.Asked counted-at-reads.Learnt
counted-at κs args asked x y u v p q = (alike p q, refl)
