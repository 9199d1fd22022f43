-- `text::fields::is_same` meets its contract: the words are the same if the bytes before are alike and what is left is the same. Assumes nothing.
use Rattle.std.proofs.Common.{◌≡◌, ◌∙◌, length, refl, rules, sym, ap, arith}
use mathlib.Core.Logic.{inl, inr}
use Rattle.text.proofs.Passing.{alike-on, alike-all}
use Rattle.text.proofs.fields.is_same.Goals as goal

pub loop-x-init : goal.loop-x-init
loop-x-init c =
    let a : c.into_iter-x-iterator.result.a.rest.now ≡ c.args.one.now = search rules in
    let b : c.into_iter-x-iterator.result.b.rest.now ≡ c.args.other.now = search rules in
    rw (a, b) (refl, c.requires)

pub loop-x-preserved : goal.loop-x-preserved
loop-x-preserved c =
    let before = c.loop-x.invariant in
    let next = c.in-Some.ensures.steps in
    let long = sym (ap length next.0) ∙ before.1 ∙ ap length next.1 in
    (before.0 ∙ alike-on c.loop-x.alike c.in-Some.x.now c.in-Some.y.now _ _ next.0 next.1, omega (arith, long))

pub returns : goal.returns
returns c =
    let ended = c.loop-x.invariant in
    let none : length c.loop-x.x-iterator.a.rest.now ≡ 0 =
    elim c.in-None.ensures.steps [ inl s ↦ omega (arith, s.1.0, ended.1) | inr s ↦ omega (arith, s.1.0, ended.1) ] in
    sym (ended.0 ∙ alike-all c.loop-x.alike _ _ none (sym ended.1 ∙ none))
