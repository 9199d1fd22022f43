-- The contracts of `reset` determine what a call gives: one theorem for each public function. Assumes nothing.
use mathlib.Core.Path.{refl}
use Rattle.determined.specs.Determines.{Determines}
use Rattle.laws.proofs.One.{alike}
use Rattle.reset.proofs.lock_out.Kinds as lock-out-kinds
use Rattle.reset.proofs.lock_out.Reads as lock-out-reads
use Rattle.reset.proofs.reset_state.Kinds as reset-state-kinds
use Rattle.reset.proofs.reset_state.Reads as reset-state-reads
use Rattle.reset.proofs.effect_of.Kinds as effect-of-kinds
use Rattle.reset.proofs.effect_of.Reads as effect-of-reads

pub lock-out : Determines 1 lock-out-kinds.ps lock-out-kinds.r lock-out-reads.Asked lock-out-reads.Learnt
lock-out κs args asked x y u v p q = (refl, λ i. (alike p q i, v.1))

pub reset-state : Determines 1 reset-state-kinds.ps reset-state-kinds.r reset-state-reads.Asked reset-state-reads.Learnt
reset-state κs args asked x y u v p q = (refl, λ i. (alike p q i, v.1))

pub effect-of : Determines 0 effect-of-kinds.ps effect-of-kinds.r effect-of-reads.Asked effect-of-reads.Learnt
effect-of κs args asked x y u v p q = (alike p q, refl)
