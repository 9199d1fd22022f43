-- `given::test_places` meets its contract: what is known before place i, and the rules and totals from it on, decide as all of them do. Assumes nothing.
use Prim.Native.Nat.{ℕ, ◌+◌, ◌*◌, ◌<◌}
use mathlib.Core.Path.{◌≡◌, sym, ap, ◌∙◌}
use mathlib.Core.Bool.{true, false}
use mathlib.Core.List.{List}
use native.Mathlib.Omega.{arith}
use lib.ListN.{length, drop}
use Rattle.rules.proofs.Units.{units-few}
use Rattle.tables.specs.Inner.Tables.{all_zero}
use Rattle.packing.specs.RulePlace.{is_rule_place}
use Rattle.packing.proofs.RulePlace.{rule-here}
use Rattle.packing.proofs.RuleTests.{is-rule-here}
use Rattle.given.proofs.Places.{to_end}
use Rattle.given.proofs.Order.{place-scope, gone-room}
use Rattle.given.proofs.Pass.{window-here, passed_start, passed-bad, passed-stop, passed-next, passed-end}
use Rattle.given.proofs.test_places.Goals.{After-is_rule}
use Rattle.given.proofs.test_places.Goals as goal

pub loop-i-init : goal.loop-i-init
loop-i-init c = passed_start _ _ _ _ c.requires.3 c.requires.2

-- whether a rule stands at place i, and which, by the numbers read there
module _ (c : After-is_rule) where
  abbrev numbers : List ℕ
  numbers = c.args.rules.now

  abbrev at : ℕ
  at = c.loop-i.i * 2

  there : at + 1 < length numbers
  there = omega (arith, c.requires, c.loop-i-test.true)

  tested : is_rule_place 64 (drop at numbers) ≡ c.is_rule.result
  tested = sym (c.is_rule.ensures ∙ is-rule-here numbers at there 64)

pub returns-then-not-is_rule : goal.returns-then-not-is_rule
returns-then-not-is_rule c =
    passed-bad c.loop-i.invariant c.loop-i-test.true (tested (goal.at.returns-then-not-is_rule c).After-is_rule ∙ c.if-not-is_rule.true)

pub slice_bounds-admit_next-end : goal.slice_bounds-admit_next-end
slice_bounds-admit_next-end c = sym c.loop-i.invariant.gone.held.long

pub admit_next-requires : goal.admit_next-requires
admit_next-requires c =
    let k = (goal.at.admit_next-requires c).After-is_rule in
    let passes = tested k ∙ c.if-not-is_rule.false in
    let read = c.rule_of-rule.ensures ∙ rule-here (numbers k) (at k) (there k) in
    let gone = c.loop-i.invariant.gone in
    ((_, gone.held), gone-room gone c.loop-i-test.true, (64, rw (read) (place-scope 64 _ (passes))))

pub returns-in_err-tally : goal.returns-in_err-tally
returns-in_err-tally c =
    let k = (goal.at.returns-in_err-tally c).After-is_rule in
    let passes = tested k ∙ c.if-not-is_rule.false in
    let read = c.rule_of-rule.ensures ∙ rule-here (numbers k) (at k) (there k) in
    let passed = c.loop-i.invariant in
    rw c.from_residual.ensures (passed-stop passed c.loop-i-test.true passes read _ (c.in_err-tally.ensures _ passed.gone.held))

pub own_gaps-gaps-requires : goal.own_gaps-gaps-requires
own_gaps-gaps-requires c =
    omega (arith, c.loop-i.invariant.paid.far, c.loop-i-test.true, c.requires.1, c.requires.2)

pub overflow_add-place : goal.overflow_add-place
overflow_add-place c =
    omega (arith, c.loop-i.invariant.paid.far, c.loop-i-test.true, c.requires.2, c.accounts-place.ensures, units-few c.rule_of-rule.result.scope)

pub loop-i-preserved : goal.loop-i-preserved
loop-i-preserved c =
    let k = (goal.at.loop-i-preserved c).After-is_rule in
    let passes = tested k ∙ c.if-not-is_rule.false in
    let read = c.rule_of-rule.ensures ∙ rule-here (numbers k) (at k) (there k) in
    let passed = c.loop-i.invariant in
    let ok = sym c.is_rule.ensures ∙ c.if-not-is_rule.false in
    passed-next passed c.loop-i-test.true (passes) (read) _ (c.in_ok-tally.ensures _ passed.gone.held)
    _ c.own_gaps-gaps.ensures _ c.accounts-place.ensures _ (window-here _ _ ok _ c.rule_of-rule.ensures c.window_of.ensures) _ c.max-most.ensures

pub slice_bounds-is_zero-count-2 : goal.slice_bounds-is_zero-count-2
slice_bounds-is_zero-count-2 c =
    omega (arith, c.loop-i.invariant.gone.reach, c.loop-i.invariant.paid.far, c.requires.1, c.requires.2)

pub slice_bounds-is_zero-start-2 : goal.slice_bounds-is_zero-start-2
slice_bounds-is_zero-start-2 c =
    omega (arith, c.loop-i.invariant.gone.reach, c.loop-i.invariant.paid.far, c.requires.1, c.requires.2)

pub returns-then-tally-n : goal.returns-then-tally-n
returns-then-tally-n c =
    let a = c.args in
    passed-end c.loop-i.invariant c.loop-i-test.false (c.is_zero.ensures ∙ ap all_zero (to_end _ a.rules.now))
    (c.is_zero-2.ensures ∙ ap all_zero (to_end _ a.totals.now)) true c.if-tally-n.true

pub returns : goal.returns
returns c =
    let a = c.args in
    passed-end c.loop-i.invariant c.loop-i-test.false (c.is_zero.ensures ∙ ap all_zero (to_end _ a.rules.now))
    (c.is_zero-2.ensures ∙ ap all_zero (to_end _ a.totals.now)) false c.if-tally-n.false
