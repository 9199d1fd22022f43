-- The contracts of `rows` determine what a call gives: one theorem for each public function. Assumes nothing.
use mathlib.Core.Path.{refl}
use Rattle.determined.specs.Determines.{Determines}
use Rattle.laws.proofs.One.{alike}
use Rattle.rows.proofs.put_row.Kinds as put-row-kinds
use Rattle.rows.proofs.put_row.Reads as put-row-reads
use Rattle.rows.proofs.put_answer.Kinds as put-answer-kinds
use Rattle.rows.proofs.put_answer.Reads as put-answer-reads

pub put-row : Determines 1 put-row-kinds.ps put-row-kinds.r put-row-reads.Asked put-row-reads.Learnt
put-row κs args asked x y u v p q = (refl, λ i. (alike p q i, v.1))

pub put-answer : Determines 1 put-answer-kinds.ps put-answer-kinds.r put-answer-reads.Asked put-answer-reads.Learnt
put-answer κs args asked x y u v p q = (refl, λ i. (v.0, (alike p q i, v.1.1)))
