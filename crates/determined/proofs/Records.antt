-- The contracts of `records` determine what a call gives: one theorem for each public function. Assumes nothing.
use mathlib.Core.Path.{refl}
use Rattle.determined.specs.Determines.{Determines}
use Rattle.laws.proofs.One.{alike}
use Rattle.records.proofs.is_valid.Kinds as is-valid-kinds
use Rattle.records.proofs.is_valid.Reads as is-valid-reads
use Rattle.records.proofs.read.Kinds as read-kinds
use Rattle.records.proofs.read.Reads as read-reads
use Rattle.records.proofs.write.Kinds as write-kinds
use Rattle.records.proofs.write.Reads as write-reads
use Rattle.records.proofs.values_of.Kinds as values-of-kinds
use Rattle.records.proofs.values_of.Reads as values-of-reads
use Rattle.records.proofs.event_in.Kinds as event-in-kinds
use Rattle.records.proofs.event_in.Reads as event-in-reads
use Rattle.records.proofs.read16.Kinds as read16-kinds
use Rattle.records.proofs.read16.Reads as read16-reads
use Rattle.records.proofs.write16.Kinds as write16-kinds
use Rattle.records.proofs.write16.Reads as write16-reads
use Rattle.records.proofs.read_numbers.Kinds as read-numbers-kinds
use Rattle.records.proofs.read_numbers.Reads as read-numbers-reads
use Rattle.records.proofs.read16_numbers.Kinds as read16-numbers-kinds
use Rattle.records.proofs.read16_numbers.Reads as read16-numbers-reads
use Rattle.records.proofs.write_values.Kinds as write-values-kinds
use Rattle.records.proofs.write_values.Reads as write-values-reads
use Rattle.records.proofs.write16_values.Kinds as write16-values-kinds
use Rattle.records.proofs.write16_values.Reads as write16-values-reads
use Rattle.records.proofs.values16_of.Kinds as values16-of-kinds
use Rattle.records.proofs.values16_of.Reads as values16-of-reads
use Rattle.records.proofs.event16_in.Kinds as event16-in-kinds
use Rattle.records.proofs.event16_in.Reads as event16-in-reads
use Rattle.records.proofs.widen.Kinds as widen-kinds
use Rattle.records.proofs.widen.Reads as widen-reads
use Rattle.records.proofs.narrow.Kinds as narrow-kinds
use Rattle.records.proofs.narrow.Reads as narrow-reads

pub is-valid : Determines 0 is-valid-kinds.ps is-valid-kinds.r is-valid-reads.Asked is-valid-reads.Learnt
is-valid κs args asked x y u v p q = (alike p q, refl)

pub read : Determines 1 read-kinds.ps read-kinds.r read-reads.Asked read-reads.Learnt
read κs args asked x y u v p q = (alike p q, refl)

pub write : Determines 1 write-kinds.ps write-kinds.r write-reads.Asked write-reads.Learnt
write κs args asked x y u v p q = (alike p.0 q.0, λ i. (v.0, (alike p.1 q.1 i, v.1.1)))

pub values-of : Determines 0 values-of-kinds.ps values-of-kinds.r values-of-reads.Asked values-of-reads.Learnt
values-of κs args asked x y u v p q = (alike p q, refl)

pub event-in : Determines 1 event-in-kinds.ps event-in-kinds.r event-in-reads.Asked event-in-reads.Learnt
event-in κs args asked x y u v p q = (alike p q, refl)

pub read16 : Determines 1 read16-kinds.ps read16-kinds.r read16-reads.Asked read16-reads.Learnt
read16 κs args asked x y u v p q = (alike p q, refl)

pub write16 : Determines 1 write16-kinds.ps write16-kinds.r write16-reads.Asked write16-reads.Learnt
write16 κs args asked x y u v p q = (alike p.0 q.0, λ i. (v.0, (alike p.1 q.1 i, v.1.1)))

pub read-numbers : Determines 2 read-numbers-kinds.ps read-numbers-kinds.r read-numbers-reads.Asked read-numbers-reads.Learnt
read-numbers κs args asked x y u v p q = (refl, λ i. (v.0, (alike p q i, v.1.1)))

pub read16-numbers : Determines 2 read16-numbers-kinds.ps read16-numbers-kinds.r read16-numbers-reads.Asked read16-numbers-reads.Learnt
read16-numbers κs args asked x y u v p q = (refl, λ i. (v.0, (alike p q i, v.1.1)))

pub write-values : Determines 1 write-values-kinds.ps write-values-kinds.r write-values-reads.Asked write-values-reads.Learnt
write-values κs args asked x y u v p q = (alike p.0 q.0, λ i. (v.0, (alike p.1 q.1 i, v.1.1)))

pub write16-values : Determines 1 write16-values-kinds.ps write16-values-kinds.r write16-values-reads.Asked write16-values-reads.Learnt
write16-values κs args asked x y u v p q = (alike p.0 q.0, λ i. (v.0, (alike p.1 q.1 i, v.1.1)))

pub values16-of : Determines 0 values16-of-kinds.ps values16-of-kinds.r values16-of-reads.Asked values16-of-reads.Learnt
values16-of κs args asked x y u v p q = (alike p q, refl)

pub event16-in : Determines 1 event16-in-kinds.ps event16-in-kinds.r event16-in-reads.Asked event16-in-reads.Learnt
event16-in κs args asked x y u v p q = (alike p q, refl)

pub widen : Determines 2 widen-kinds.ps widen-kinds.r widen-reads.Asked widen-reads.Learnt
widen κs args asked x y u v p q = (alike p.0 q.0, λ i. (v.0, (alike p.1 q.1 i, v.1.1)))

pub narrow : Determines 2 narrow-kinds.ps narrow-kinds.r narrow-reads.Asked narrow-reads.Learnt
narrow κs args asked x y u v p q = (alike p.0 q.0, λ i. (v.0, (alike p.1 q.1 i, v.1.1)))
