-- The contracts of `admission` determine what a call gives: one theorem for each public function. Assumes nothing.
use Rattle.determined.specs.Determines.{Determines}
use Rattle.admission.proofs.Joining.{one_way}
use Rattle.admission.proofs.admit_next.Kinds as admit-next-kinds
use Rattle.admission.proofs.admit_next.Reads as admit-next-reads
use Rattle.admission.proofs.admit.Kinds as admit-kinds
use Rattle.admission.proofs.admit.Reads as admit-reads

pub admit-next : Determines 1 admit-next-kinds.ps admit-next-kinds.r admit-next-reads.Asked admit-next-reads.Learnt
admit-next κs args asked x y u v p q =
    let held = asked.0 in
    let w = one_way _ _ _ _ x y _ _ (p held.0 held.1) (q held.0 held.1) in
    (w.0, λ i. (v.0, (v.1.0, (w.1 i, v.1.1.1))))

pub admit : Determines 1 admit-kinds.ps admit-kinds.r admit-reads.Asked admit-reads.Learnt
admit κs args asked x y u v p q =
    let held = asked.0 in
    let w = one_way _ _ _ _ x y _ _ (p held.0 held.1) (q held.0 held.1) in
    (w.0, λ i. (v.0, (v.1.0, (w.1 i, v.1.1.1))))
