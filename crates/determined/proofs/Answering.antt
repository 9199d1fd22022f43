-- The contracts of `answering` determine what a call gives: one theorem for each public function. Assumes nothing.
use mathlib.Core.Path.{refl}
use Rattle.determined.specs.Determines.{Determines}
use Rattle.laws.proofs.One.{alike}
use Rattle.machine.proofs.Told.{one_told}
use Rattle.answering.proofs.arm.Kinds as arm-kinds
use Rattle.answering.proofs.arm.Reads as arm-reads
use Rattle.answering.proofs.answer_record.Kinds as answer-record-kinds
use Rattle.answering.proofs.answer_record.Reads as answer-record-reads
use Rattle.answering.proofs.run.Kinds as run-kinds
use Rattle.answering.proofs.run.Reads as run-reads
use Rattle.answering.proofs.put_spaced.Kinds as put-spaced-kinds
use Rattle.answering.proofs.put_spaced.Reads as put-spaced-reads
use Rattle.answering.proofs.milliseconds.Kinds as milliseconds-kinds
use Rattle.answering.proofs.milliseconds.Reads as milliseconds-reads
use Rattle.answering.proofs.offered.Kinds as offered-kinds
use Rattle.answering.proofs.offered.Reads as offered-reads

pub arm : Determines 3 arm-kinds.ps arm-kinds.r arm-reads.Asked arm-reads.Learnt
arm κs args asked x y u v p q = (alike p.1.0 q.1.0, λ i. (alike p.1.1.0 q.1.1.0 i, (v.1.0, (alike p.1.1.1 q.1.1.1 i, v.1.1.1))))

pub answer-record : Determines 2 answer-record-kinds.ps answer-record-kinds.r answer-record-reads.Asked answer-record-reads.Learnt
answer-record κs args asked x y u v p q = (one_told x y (alike p.0 q.0), λ i. (alike p.1 q.1 i, v.1))

pub run : Determines 3 run-kinds.ps run-kinds.r run-reads.Asked run-reads.Learnt
run κs args asked x y u v p q = (alike p.1.0 q.1.0, λ i. (alike p.1.1.0 q.1.1.0 i, (v.1.0, (v.1.1.0, (alike p.1.1.1 q.1.1.1 i, v.1.1.1.1)))))

pub put-spaced : Determines 2 put-spaced-kinds.ps put-spaced-kinds.r put-spaced-reads.Asked put-spaced-reads.Learnt
put-spaced κs args asked x y u v p q = (alike p.0 q.0, λ i. (v.0, (alike p.1.0 q.1.0 i, v.1.1)))

pub milliseconds : Determines 0 milliseconds-kinds.ps milliseconds-kinds.r milliseconds-reads.Asked milliseconds-reads.Learnt
milliseconds κs args asked x y u v p q = (alike p q, refl)

pub offered : Determines 0 offered-kinds.ps offered-kinds.r offered-reads.Asked offered-reads.Learnt
offered κs args asked x y u v p q = (alike p q, refl)
