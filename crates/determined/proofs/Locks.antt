-- The contracts of `locks` determine what a call gives: one theorem for each public function. Assumes nothing.
use mathlib.Core.Path.{refl}
use Rattle.determined.specs.Determines.{Determines}
use Rattle.laws.proofs.One.{alike}
use Rattle.locks.proofs.verdict.Kinds as verdict-kinds
use Rattle.locks.proofs.verdict.Reads as verdict-reads
use Rattle.locks.proofs.standing.Kinds as standing-kinds
use Rattle.locks.proofs.standing.Reads as standing-reads
use Rattle.locks.proofs.lock.Kinds as lock-kinds
use Rattle.locks.proofs.lock.Reads as lock-reads
use Rattle.locks.proofs.lift.Kinds as lift-kinds
use Rattle.locks.proofs.lift.Reads as lift-reads
use Rattle.locks.proofs.trip.Kinds as trip-kinds
use Rattle.locks.proofs.trip.Reads as trip-reads

pub verdict : Determines 1 verdict-kinds.ps verdict-kinds.r verdict-reads.Asked verdict-reads.Learnt
verdict κs args asked x y u v p q = (alike p q, refl)

pub standing : Determines 1 standing-kinds.ps standing-kinds.r standing-reads.Asked standing-reads.Learnt
standing κs args asked x y u v p q = (alike p q, refl)

pub lock : Determines 1 lock-kinds.ps lock-kinds.r lock-reads.Asked lock-reads.Learnt
lock κs args asked x y u v p q = (refl, λ i. (alike p q i, v.1))

pub lift : Determines 1 lift-kinds.ps lift-kinds.r lift-reads.Asked lift-reads.Learnt
lift κs args asked x y u v p q = (refl, λ i. (alike p q i, v.1))

pub trip : Determines 1 trip-kinds.ps trip-kinds.r trip-reads.Asked trip-reads.Learnt
trip κs args asked x y u v p q = (refl, λ i. (alike p q i, v.1))
