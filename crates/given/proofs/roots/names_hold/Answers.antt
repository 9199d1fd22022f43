-- `given::names_hold` meets its contract: the names from place i on are roots, and marked. Assumes nothing.
use Prim.Native.Nat.{◌+◌, ◌-◌, ◌≤◌}
use mathlib.Core.Bool.{Bool, ◌&&◌}
use mathlib.Core.Path.{◌≡◌, sym, ap, ◌∙◌}
use lib.ListN.{length, drop}
use native.Mathlib.Omega.{arith}
use Rattle.tables.specs.Inner.Tables.{all_zero}
use Rattle.given.proofs.Places.{to_end, roots-start, roots-end}
use Rattle.given.proofs.Marks.{marked_start, marked-back, back_on, late}
use Rattle.given.proofs.roots.names_hold.Goals as goal

pub loop-i-init : goal.loop-i-init
loop-i-init c = let a = c.args in (omega arith, roots-end a.n a.names.now a.n (omega arith), marked_start a.n a.names.now)

pub is_new-requires : goal.is_new-requires
is_new-requires c = let here : c.loop-i.i - 1 + 1 ≡ c.loop-i.i = omega arith in rw here (c.loop-i.invariant.2.new _)

pub returns-then-not-is_name_number-is_new : goal.returns-then-not-is_name_number-is_new
returns-then-not-is_name_number-is_new c =
    let l = c.loop-i in
    let a = c.args in
    let here : l.i - 1 + 1 ≡ l.i = omega arith in
    late a.n a.names.now (omega (arith, c.requires)) (l.i - 1) (omega arith)
    (back_on a.n a.names.now (omega (arith, c.requires)) (l.i - 1) l.i (omega arith) (omega arith) l.invariant.1
    c.is_name_number.ensures (rw here at c.is_new.ensures) (c.if-not-is_name_number-is_new.true))

pub loop-i-preserved : goal.loop-i-preserved
loop-i-preserved c =
    let l = c.loop-i in
    let a = c.args in
    let here : l.i - 1 + 1 ≡ l.i = omega arith in
    let within : a.n ≤ length a.names.now = omega (arith, c.requires) in (
      omega arith,
      back_on a.n a.names.now within (l.i - 1) l.i (omega arith) (omega arith) l.invariant.1
          c.is_name_number.ensures (rw here at c.is_new.ensures) (c.if-not-is_name_number-is_new.false),
      marked-back a.n a.names.now within (l.i - 1) l.i (omega arith) (omega arith) l.invariant.2,
    )

pub returns : goal.returns
returns c =
    let l = c.loop-i in
    let a = c.args in
    let z : l.i ≡ 0 = omega arith in
    c.is_zero.ensures ∙ ap all_zero (to_end _ a.names.now)
    ∙ sym (roots-start a.n a.names.now ∙ ap (λ (b : Bool). b && all_zero (drop a.n a.names.now)) (rw z at l.invariant.1))
