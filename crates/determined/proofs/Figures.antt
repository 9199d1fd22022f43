-- The contracts of `figures` determine what a call gives: one theorem for each public function. Assumes nothing.
use mathlib.Core.Path.{refl}
use Rattle.determined.specs.Determines.{Determines}
use Rattle.laws.proofs.One.{alike}
use Rattle.figures.proofs.bound.Kinds as bound-kinds
use Rattle.figures.proofs.bound.Reads as bound-reads
use Rattle.figures.proofs.fits.Kinds as fits-kinds
use Rattle.figures.proofs.fits.Reads as fits-reads
use Rattle.figures.proofs.count.Kinds as count-kinds
use Rattle.figures.proofs.count.Reads as count-reads
use Rattle.figures.proofs.rows.FiguresFromArrayU64ROW.from.Kinds as figures-from-array-u64-row-from-kinds
use Rattle.figures.proofs.rows.FiguresFromArrayU64ROW.from.Reads as figures-from-array-u64-row-from-reads
use Rattle.figures.proofs.rows.ArrayU64ROWFromFigures.from.Kinds as array-u64-row-from-figures-from-kinds
use Rattle.figures.proofs.rows.ArrayU64ROWFromFigures.from.Reads as array-u64-row-from-figures-from-reads

pub bound : Determines 1 bound-kinds.ps bound-kinds.r bound-reads.Asked bound-reads.Learnt
bound κs args asked x y u v p q = (alike p q, refl)

pub fits : Determines 1 fits-kinds.ps fits-kinds.r fits-reads.Asked fits-reads.Learnt
fits κs args asked x y u v p q = (alike p q, refl)

pub count : Determines 1 count-kinds.ps count-kinds.r count-reads.Asked count-reads.Learnt
count κs args asked x y u v p q = (refl, λ i. (alike p q i, v.1))

pub figures-from-array-u64-row-from : Determines 0 figures-from-array-u64-row-from-kinds.ps figures-from-array-u64-row-from-kinds.r figures-from-array-u64-row-from-reads.Asked figures-from-array-u64-row-from-reads.Learnt
figures-from-array-u64-row-from κs args asked x y u v p q = (alike p q, refl)

pub array-u64-row-from-figures-from : Determines 0 array-u64-row-from-figures-from-kinds.ps array-u64-row-from-figures-from-kinds.r array-u64-row-from-figures-from-reads.Asked array-u64-row-from-figures-from-reads.Learnt
array-u64-row-from-figures-from κs args asked x y u v p q = (alike p q, refl)
