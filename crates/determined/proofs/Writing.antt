-- The contracts of `writing` determine what a call gives: one theorem for each public function. Assumes nothing.
use mathlib.Core.Path.{refl}
use Rattle.determined.specs.Determines.{Determines}
use Rattle.laws.proofs.One.{alike}
use Rattle.writing.proofs.text_size.Kinds as text-size-kinds
use Rattle.writing.proofs.text_size.Reads as text-size-reads
use Rattle.writing.proofs.write_text.Kinds as write-text-kinds
use Rattle.writing.proofs.write_text.Reads as write-text-reads

pub text-size : Determines 2 text-size-kinds.ps text-size-kinds.r text-size-reads.Asked text-size-reads.Learnt
text-size κs args asked x y u v p q = (alike p q, refl)

pub write-text : Determines 3 write-text-kinds.ps write-text-kinds.r write-text-reads.Asked write-text-reads.Learnt
write-text κs args asked x y u v p q =
    (alike p.0 q.0, λ i. (v.0, (v.1.0, (v.1.1.0, (alike p.1 q.1 i, v.1.1.1.1)))))
