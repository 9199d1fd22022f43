-- The contracts of `bits` determine what a call gives: one theorem for each public function. Assumes nothing.
use mathlib.Core.Path.{refl}
use Rattle.determined.specs.Determines.{Determines}
use Rattle.laws.proofs.One.{alike}
use Rattle.bits.proofs.read_fields.Kinds as read-fields-kinds
use Rattle.bits.proofs.read_fields.Reads as read-fields-reads
use Rattle.bits.proofs.write_fields.Kinds as write-fields-kinds
use Rattle.bits.proofs.write_fields.Reads as write-fields-reads
use Rattle.bits.proofs.marked.Kinds as marked-kinds
use Rattle.bits.proofs.marked.Reads as marked-reads
use Rattle.bits.proofs.mark.Kinds as mark-kinds
use Rattle.bits.proofs.mark.Reads as mark-reads
use Rattle.bits.proofs.unmark.Kinds as unmark-kinds
use Rattle.bits.proofs.unmark.Reads as unmark-reads
use Rattle.bits.proofs.within.Kinds as within-kinds
use Rattle.bits.proofs.within.Reads as within-reads
use Rattle.bits.proofs.locked_roots.Kinds as locked-roots-kinds
use Rattle.bits.proofs.locked_roots.Reads as locked-roots-reads

pub read-fields : Determines 3 read-fields-kinds.ps read-fields-kinds.r read-fields-reads.Asked read-fields-reads.Learnt
read-fields κs args asked x y u v p q = (refl, λ i. (v.0, (v.1.0, (alike p q i, v.1.1.1))))

pub write-fields : Determines 3 write-fields-kinds.ps write-fields-kinds.r write-fields-reads.Asked write-fields-reads.Learnt
write-fields κs args asked x y u v p q = (refl, λ i. (v.0, (v.1.0, (v.1.1.0, (alike p q i, v.1.1.1.1)))))

pub marked : Determines 0 marked-kinds.ps marked-kinds.r marked-reads.Asked marked-reads.Learnt
marked κs args asked x y u v p q = (alike p q, refl)

pub mark : Determines 0 mark-kinds.ps mark-kinds.r mark-reads.Asked mark-reads.Learnt
mark κs args asked x y u v p q = (alike p q, refl)

pub unmark : Determines 0 unmark-kinds.ps unmark-kinds.r unmark-reads.Asked unmark-reads.Learnt
unmark κs args asked x y u v p q = (alike p q, refl)

pub within : Determines 0 within-kinds.ps within-kinds.r within-reads.Asked within-reads.Learnt
within κs args asked x y u v p q = (alike p q, refl)

pub locked-roots : Determines 0 locked-roots-kinds.ps locked-roots-kinds.r locked-roots-reads.Asked locked-roots-reads.Learnt
locked-roots κs args asked x y u v p q = (alike p q, refl)
