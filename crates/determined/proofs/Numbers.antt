-- The contracts of `numbers` determine what a call gives: one theorem for each public function. Assumes nothing.
use mathlib.Core.Path.{refl}
use Rattle.determined.specs.Determines.{Determines}
use Rattle.laws.proofs.One.{alike}
use Rattle.numbers.proofs.least.Kinds as least-kinds
use Rattle.numbers.proofs.least.Reads as least-reads
use Rattle.numbers.proofs.greatest.Kinds as greatest-kinds
use Rattle.numbers.proofs.greatest.Reads as greatest-reads
use Rattle.numbers.proofs.pick.Kinds as pick-kinds
use Rattle.numbers.proofs.pick.Reads as pick-reads
use Rattle.numbers.proofs.wide.Kinds as wide-kinds
use Rattle.numbers.proofs.wide.Reads as wide-reads

pub least : Determines 0 least-kinds.ps least-kinds.r least-reads.Asked least-reads.Learnt
least κs args asked x y u v p q = (alike p q, refl)

pub greatest : Determines 0 greatest-kinds.ps greatest-kinds.r greatest-reads.Asked greatest-reads.Learnt
greatest κs args asked x y u v p q = (alike p q, refl)

pub pick : Determines 0 pick-kinds.ps pick-kinds.r pick-reads.Asked pick-reads.Learnt
pick κs args asked x y u v p q = (alike p q, refl)

pub wide : Determines 0 wide-kinds.ps wide-kinds.r wide-reads.Asked wide-reads.Learnt
wide κs args asked x y u v p q = (alike p q, refl)
