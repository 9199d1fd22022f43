-- `state::account_at` meets its contract: the place is that of the accounts of rule i, for each rule before the one that is asked for. Assumes nothing.
use Prim.Native.Nat.{ℕ, ◌+◌, ◌<◌}
use mathlib.Core.Path.{◌≡◌, refl, ap, ap₂, ◌∙◌}
use native.Mathlib.Omega.{arith}
use Rattle.rules.specs.Units.{place_in}
use Rattle.rules.specs.declared.Rule.{Rule}
use Rattle.rules.proofs.Units.{units-few, unit-place}
use lib.ListN.{length}
use Rattle.machine.specs.State.{rules_in, cells_of}
use Rattle.machine.specs.Remaining.{rule_numbered, first_cell, cell_at}
use Rattle.state.specs.State.{decode}
use Rattle.state.proofs.Laid.{laid-few}
use Rattle.state.proofs.Walked.{place-within, next_place}
use Rattle.state.proofs.account_at.Goals as goal

pub loop-i-init : goal.loop-i-init
unfolding cells_of
loop-i-init c = refl

pub rule_in-before-requires : goal.rule_in-before-requires
rule_in-before-requires c = let start = c in (start.requires.0, omega (arith, start.requires.1, c.loop-i-test.true))

pub overflow_add-place : goal.overflow_add-place
overflow_add-place c =
    let at-loop = c in
    let laid = at-loop.requires.0 in
    omega (arith, place-within laid at-loop.loop-i.i at-loop.loop-i.invariant, laid-few laid, c.accounts-place.ensures, units-few c.rule_in-before.result.scope)

pub loop-i-preserved : goal.loop-i-preserved
loop-i-preserved c =
    let at-loop = c in
    let start = at-loop in
    let low : at-loop.loop-i.i < length (rules_in (decode start.args.m.now)) = omega (arith, start.requires.1, c.loop-i-test.true) in
    next_place start.requires.0 low at-loop.loop-i.invariant c.rule_in-before.ensures c.accounts-place.ensures

pub overflow_add-result : goal.overflow_add-result
overflow_add-result c =
    let at-loop = c in
    let start = at-loop in
    let rules = rules_in (decode start.args.m.now) in
    let place : c.place_of.result ≡ place_in (rule_numbered rules start.args.rule).scope start.args.unit = c.place_of.ensures ∙ ap (λ (r : Rule). place_in r.scope start.args.unit) c.rule_in-own.ensures in
    let low = (unit-place (rule_numbered rules start.args.rule).scope start.args.unit start.requires.2).0 in
    let within = place-within start.requires.0 at-loop.loop-i.i at-loop.loop-i.invariant in
    omega (arith, within, laid-few start.requires.0, place, low, units-few (rule_numbered rules start.args.rule).scope)

pub returns : goal.returns
unfolding cell_at
returns c =
    let at-loop = c in
    let start = at-loop in
    let rules = rules_in (decode start.args.m.now) in
    let end : at-loop.loop-i.i ≡ start.args.rule = omega arith in
    ap₂ (λ (a b : ℕ). a + b) (at-loop.loop-i.invariant ∙ ap (first_cell rules) end)
    (c.place_of.ensures ∙ ap (λ (r : Rule). place_in r.scope start.args.unit) c.rule_in-own.ensures)
