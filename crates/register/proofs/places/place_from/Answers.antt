-- `register::places::place_from` meets its contract: from place i on decides as from the first place on, one place after the other. Assumes nothing.
use Prim.Native.Nat.{◌+◌}
use mathlib.Core.Path.{◌≡◌, sym, ap, ◌∙◌}
use mathlib.Core.List.{List}
use native.Mathlib.Omega.{arith}
use borrow.Author.Tests.{eq-eqb, ne_eqb}
use Rattle.machine.specs.declared.Sent.{Sent}
use Rattle.machine.specs.Register.{has_identity}
use Rattle.register.specs.Register.{register_of, place_of_identity}
use Rattle.register.proofs.Registers.{register-long, identity-at, orders-from}
use Rattle.register.proofs.Finding.{place_here, place-later, place_end}
use Rattle.register.proofs.places.place_from.Goals as goal

pub returns-then-identity_of-identity : goal.returns-then-identity_of-identity
unfolding has_identity
returns-then-identity_of-identity c =
    let l = c.loop-i in
    let a = c.args in
    let t = c.loop-i-test.true in
    let e = identity-at a.k a.register.now l.i t ∙ sym c.identity_of.ensures ∙ c.if-identity_of-identity.true in
    sym (place_here a.identity _ _ l.i (eq-eqb _ _ e)) ∙ ap (λ (q : List Sent). l.i + place_of_identity q a.identity) (sym (orders-from a.k a.register.now l.i t)) ∙ l.invariant

pub loop-i-preserved : goal.loop-i-preserved
unfolding has_identity
loop-i-preserved c =
    let l = c.loop-i in
    let a = c.args in
    let t = c.loop-i-test.true in
    let e = identity-at a.k a.register.now l.i t ∙ sym c.identity_of.ensures in
    sym (place-later a.identity _ _ l.i (ne_eqb _ _ (λ s. c.if-identity_of-identity.false (sym e ∙ s)))) ∙ ap (λ (q : List Sent). l.i + place_of_identity q a.identity) (sym (orders-from a.k a.register.now l.i t)) ∙ l.invariant

pub returns : goal.returns
returns c =
    let l = c.loop-i in
    let a = c.args in
    let same : a.k ≡ l.i = omega arith in
    same ∙ sym (place_end a.identity (register_of a.k a.register.now) l.i (omega (arith, register-long a.k a.register.now))) ∙ l.invariant
