-- `register::tests::are_different` meets its contract: the orders from place i on are marked, and whether they differ is known. Assumes nothing.
use Prim.Native.Nat.{◌+◌, ◌-◌}
use mathlib.Core.Path.{◌≡◌, ◌∙◌}
use Rattle.std.proofs.Math.Bool.{and_comm}
use native.Mathlib.Omega.{arith}
use Rattle.register.proofs.Differing.{marked-none, marked-new, marked-back, differing-none, differing-back}
use Rattle.register.proofs.tests.are_different.Goals as goal

pub loop-i-init : goal.loop-i-init
loop-i-init c =
    let a = c.args in
    (differing-none a.k a.register.now a.k (omega arith), marked-none a.k a.register.now a.k (omega arith))

pub is_new-good-requires : goal.is_new-good-requires
is_new-good-requires c =
    let l = c.loop-i in
    let p = c.requires in
    let e : l.i - 1 + 1 ≡ l.i = omega arith in
    (p.0, p.1, omega arith, rw e (marked-new l.invariant.1 _ c.marked.ensures))

pub loop-i-preserved : goal.loop-i-preserved
loop-i-preserved c =
    let l = c.loop-i in
    let a = c.args in
    let is = c.identity_of-identity.ensures in
    let e : l.i - 1 + 1 ≡ l.i = omega arith in
    let new = rw e at c.is_new-good.ensures in (
      and_comm l.good c.is_new-good.result ∙ differing-back a.k a.register.now (l.i - 1) l.i (omega arith) (omega arith) is new l.invariant.0,
      rw c.mark-marks.ensures (marked-back a.k a.register.now (l.i - 1) l.i (omega arith) (omega arith) is l.invariant.1),
    )

pub returns : goal.returns
returns c =
    let l = c.loop-i in
    let z : l.i ≡ 0 = omega arith in
    rw z at l.invariant.0
