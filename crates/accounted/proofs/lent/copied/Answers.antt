-- `accounted::lent::copied` meets its contract: the numbers cover the whole array. Assumes nothing.
use Prim.Native.Nat.{◌≤◌}
use mathlib.Core.Path.{sym, ◌∙◌}
use native.Mathlib.Omega.{arith}
use lib.ListN.{length, take}
use lib.Seq.{length-take-le}
use Rattle.accounted.proofs.Answered.{front-only}
use Rattle.accounted.proofs.lent.copied.Goals as goal

pub slice_bounds-copy-end : goal.slice_bounds-copy-end
slice_bounds-copy-end c = sym (length-take-le 2763 c.args.m.now c.requires)

pub copy-requires : goal.copy-requires
copy-requires c = omega (arith, length-take-le 2763 c.args.m.now c.requires)

pub returns : goal.returns
returns c =
    let s = c in
    let h : 2763 ≤ length (take 2763 s.args.m.now) = omega (arith, length-take-le 2763 s.args.m.now s.requires) in
    c.copy.ensures ∙ front-only _ _ h
