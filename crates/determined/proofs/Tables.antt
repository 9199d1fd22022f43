-- The contracts of `tables` determine what a call gives: one theorem for each public function. Assumes nothing.
use mathlib.Core.Path.{refl}
use Rattle.determined.specs.Determines.{Determines}
use Rattle.laws.proofs.One.{alike}
use Rattle.tables.proofs.is_zero.Kinds as is-zero-kinds
use Rattle.tables.proofs.is_zero.Reads as is-zero-reads
use Rattle.tables.proofs.move_down.Kinds as move-down-kinds
use Rattle.tables.proofs.move_down.Reads as move-down-reads

pub is-zero : Determines 1 is-zero-kinds.ps is-zero-kinds.r is-zero-reads.Asked is-zero-reads.Learnt
is-zero κs args asked x y u v p q = (alike p q, refl)

pub move-down : Determines 1 move-down-kinds.ps move-down-kinds.r move-down-reads.Asked move-down-reads.Learnt
move-down κs args asked x y u v p q = (refl, λ i. (alike p q i, v.1))
