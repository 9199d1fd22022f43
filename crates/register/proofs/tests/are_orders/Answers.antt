-- `register::tests::are_orders` meets its contract: what is left from place i on decides as the whole does. Assumes nothing.
use Prim.Native.Nat.{◌+◌, ◌-◌, ◌*◌}
use mathlib.Core.Path.{◌≡◌, sym, ap, ap₂, ◌∙◌}
use mathlib.Core.Bool.{Bool, ◌&&◌}
use lib.ListN.{length, get_or, take, drop, length-drop}
use lib.Seq.{take_all, drop-drop}
use native.Mathlib.Omega.{arith}
use Rattle.tables.specs.Inner.Tables.{all_zero, places_pass}
use Rattle.packing.specs.Gaps.{is_clear}
use Rattle.packing.proofs.Gaps.{or-clear}
use Rattle.register.specs.SentPlace.{is_sent_place}
use Rattle.register.proofs.SentPlace.{is-sent-here}
use Rattle.register.proofs.Gaps.{sent-clear}
use Rattle.register.proofs.Registers.{passing-start, passing-on, passing-end}
use Rattle.register.proofs.tests.are_orders.Goals as goal

pub loop-i-init : goal.loop-i-init
loop-i-init c = let a = c.args in passing-start a.roots a.k a.register.now

pub loop-i-preserved : goal.loop-i-preserved
loop-i-preserved c =
    let l = c.loop-i in
    let a = c.args in
    let at = 1 + l.i * 2 in
    let xs = a.register.now in
    let next = places_pass 2 (is_sent_place a.roots) (a.k - (l.i + 1)) (drop ((l.i + 1) * 2) (drop 1 xs)) in
    let clear =
    ap is_clear c.sent_gaps-gaps.ensures
    ∙ sent-clear a.roots (get_or xs at 0) (get_or xs (at + 1) 0) (omega (arith, c.type_inv.register at)) (omega (arith, c.type_inv.register (at + 1)))
    ∙ is-sent-here xs at (omega (arith, c.requires, c.loop-i-test.true)) a.roots in
    l.invariant ∙ passing-on a.roots a.k xs l.i c.loop-i-test.true (is_clear l.gaps) clear
    ∙ ap (λ (b : Bool). b && next) (sym (or-clear l.gaps c.sent_gaps-gaps.result))

pub returns : goal.returns
returns c =
    let l = c.loop-i in
    let a = c.args in
    let xs = a.register.now in
    let n = length xs - (1 + a.k * 2) in
    let z : c.is_zero.result ≡ all_zero (take n (drop (1 + a.k * 2) xs)) = c.is_zero.ensures in
    let rest : take n (drop (1 + a.k * 2) xs) ≡ drop (a.k * 2) (drop 1 xs) =
    take_all n (drop (1 + a.k * 2) xs) (omega (arith, length-drop (1 + a.k * 2) xs)) ∙ sym (drop-drop (a.k * 2) 1 xs) in
    ap₂ (λ (p q : Bool). p && q) (sym (l.invariant ∙ passing-end a.roots a.k xs l.i c.loop-i-test.false (is_clear l.gaps))) (z ∙ ap all_zero rest)
