-- The contracts of `line` determine what a call gives: one theorem for each public function. Assumes nothing.
use mathlib.Core.Path.{refl}
use Rattle.determined.specs.Determines.{Determines}
use Rattle.laws.proofs.One.{alike}
use Rattle.refusals.proofs.Once.{one_numbered}
use Rattle.line.proofs.firm_of.Kinds as firm-of-kinds
use Rattle.line.proofs.firm_of.Reads as firm-of-reads
use Rattle.line.proofs.read_line.Kinds as read-line-kinds
use Rattle.line.proofs.read_line.Reads as read-line-reads

pub firm-of : Determines 1 firm-of-kinds.ps firm-of-kinds.r firm-of-reads.Asked firm-of-reads.Learnt
firm-of κs args asked x y u v p q = (alike p q, refl)

pub read-line : Determines 1 read-line-kinds.ps read-line-kinds.r read-line-reads.Asked read-line-reads.Learnt
read-line κs args asked x y u v p q = (one_numbered _ _ (alike p q), refl)
