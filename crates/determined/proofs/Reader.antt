-- The contract of `reader` determines what a call gives. Assumes nothing.
use Prim.Native.Nat.{ℕ}
use mathlib.Core.List.{List}
use mathlib.Core.Path.{refl}
use Rattle.determined.specs.Determines.{DeterminesSeen}
use Rattle.laws.proofs.One.{alike}
use Rattle.reader.proofs.line_from.Kinds as line-from-kinds
use Rattle.reader.proofs.line_from.Reads as line-from-reads

-- the answer is a part of the text that was lent: the bytes in it are determined, and where it lies is not said
pub line-from : DeterminesSeen 1 line-from-kinds.ps line-from-kinds.r (λ κs. List ℕ) (λ κs part. part.now) line-from-reads.Asked line-from-reads.Learnt
line-from κs args asked x y u v p q = (alike p q, refl)
