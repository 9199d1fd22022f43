-- The contracts of `tabled` determine what a call gives: one theorem for each public function. Assumes nothing.
use mathlib.Core.Path.{refl}
use Rattle.determined.specs.Determines.{Determines}
use Rattle.laws.proofs.One.{alike}
use Rattle.machine.proofs.Told.{one_told}
use Rattle.tabled.proofs.take_record.Kinds as take-record-kinds
use Rattle.tabled.proofs.take_record.Reads as take-record-reads
use Rattle.tabled.proofs.run.Kinds as run-kinds
use Rattle.tabled.proofs.run.Reads as run-reads
use Rattle.tabled.proofs.put_table.Kinds as put-table-kinds
use Rattle.tabled.proofs.put_table.Reads as put-table-reads

pub take-record : Determines 3 take-record-kinds.ps take-record-kinds.r take-record-reads.Asked take-record-reads.Learnt
take-record κs args asked x y u v p q = (one_told x y (alike p.0 q.0), λ i. (alike p.1.0 q.1.0 i, (alike p.1.1 q.1.1 i, v.1.1)))

pub run : Determines 3 run-kinds.ps run-kinds.r run-reads.Asked run-reads.Learnt
run κs args asked x y u v p q = (refl, λ i. (alike p.0 q.0 i, (alike p.1 q.1 i, v.1.1)))

pub put-table : Determines 3 put-table-kinds.ps put-table-kinds.r put-table-reads.Asked put-table-reads.Learnt
put-table κs args asked x y u v p q = (alike p.1.0 q.1.0, λ i. (v.0, (v.1.0, (alike p.1.1 q.1.1 i, v.1.1.1))))
