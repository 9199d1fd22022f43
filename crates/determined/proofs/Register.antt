-- The contracts of `register` determine what a call gives: one theorem for each public function. Assumes nothing.
use mathlib.Core.Path.{refl}
use Rattle.determined.specs.Determines.{Determines}
use Rattle.laws.proofs.One.{alike}
use Rattle.register.proofs.is_register.Kinds as is-register-kinds
use Rattle.register.proofs.is_register.Reads as is-register-reads
use Rattle.register.proofs.find.Kinds as find-kinds
use Rattle.register.proofs.find.Reads as find-reads
use Rattle.register.proofs.sent_in.Kinds as sent-in-kinds
use Rattle.register.proofs.sent_in.Reads as sent-in-reads
use Rattle.register.proofs.kept.Kinds as kept-kinds
use Rattle.register.proofs.kept.Reads as kept-reads
use Rattle.register.proofs.enter.Kinds as enter-kinds
use Rattle.register.proofs.enter.Reads as enter-reads
use Rattle.register.proofs.use_up.Kinds as use-up-kinds
use Rattle.register.proofs.use_up.Reads as use-up-reads
use Rattle.register.proofs.close.Kinds as close-kinds
use Rattle.register.proofs.close.Reads as close-reads

pub is-register : Determines 1 is-register-kinds.ps is-register-kinds.r is-register-reads.Asked is-register-reads.Learnt
is-register κs args asked x y u v p q = (alike p q, refl)

pub find : Determines 1 find-kinds.ps find-kinds.r find-reads.Asked find-reads.Learnt
find κs args asked x y u v p q = (alike p q, refl)

pub sent-in : Determines 1 sent-in-kinds.ps sent-in-kinds.r sent-in-reads.Asked sent-in-reads.Learnt
sent-in κs args asked x y u v p q = (alike p q, refl)

pub kept : Determines 1 kept-kinds.ps kept-kinds.r kept-reads.Asked kept-reads.Learnt
kept κs args asked x y u v p q = (alike p q, refl)

pub enter : Determines 1 enter-kinds.ps enter-kinds.r enter-reads.Asked enter-reads.Learnt
enter κs args asked x y u v p q = (refl, λ i. (alike p q i, v.1))

pub use-up : Determines 1 use-up-kinds.ps use-up-kinds.r use-up-reads.Asked use-up-reads.Learnt
use-up κs args asked x y u v p q = (refl, λ i. (alike p q i, v.1))

pub close : Determines 1 close-kinds.ps close-kinds.r close-reads.Asked close-reads.Learnt
close κs args asked x y u v p q = (refl, λ i. (alike p q i, v.1))
