-- The contracts of `profile` determine what a call gives: one theorem for each public function. Assumes nothing.
use mathlib.Core.Path.{refl}
use Rattle.determined.specs.Determines.{Determines}
use Rattle.laws.proofs.One.{alike}
use Rattle.profile.proofs.Once.{one_scan}
use Rattle.profile.proofs.root_number.Kinds as root-number-kinds
use Rattle.profile.proofs.root_number.Reads as root-number-reads
use Rattle.profile.proofs.read.Kinds as read-kinds
use Rattle.profile.proofs.read.Reads as read-reads
use Rattle.profile.proofs.FaultFromRefusal.from.Kinds as fault-from-refusal-from-kinds
use Rattle.profile.proofs.FaultFromRefusal.from.Reads as fault-from-refusal-from-reads

pub root-number : Determines 1 root-number-kinds.ps root-number-kinds.r root-number-reads.Asked root-number-reads.Learnt
root-number κs args asked x y u v p q = (alike p q, refl)

pub read : Determines 1 read-kinds.ps read-kinds.r read-reads.Asked read-reads.Learnt
read κs args asked x y u v p q = (one_scan x y (alike p q), refl)

pub fault-from-refusal-from : Determines 0 fault-from-refusal-from-kinds.ps fault-from-refusal-from-kinds.r fault-from-refusal-from-reads.Asked fault-from-refusal-from-reads.Learnt
fault-from-refusal-from κs args asked x y u v p q = (alike p q, refl)
