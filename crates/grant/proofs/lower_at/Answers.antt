-- `grant::lower_at` meets its contract: a rule that does not cover the offer leaves the cuts, and any other lowers that of its level. Assumes nothing.
use Prim.Native.Nat.{ℕ}
use native.Mathlib.Omega.{arith}
use mathlib.Core.Path.{refl, sym, ap, ◌∙◌, subst}
use borrow.Author.Tests.{not-false}
use Rattle.rules.specs.Units.{of_unit}
use Rattle.rules.specs.declared.Level.TheVariants.{Firm, Root}
use Rattle.rules.specs.declared.Rule.{Rule}
use Rattle.machine.specs.Offers.{covers_offer}
use Rattle.state.specs.State.{decode}
use Rattle.state.specs.Inner.Laid.{account_in}
use Rattle.state.proofs.Laid.{laid-few}
use Rattle.grant.specs.Inner.Grant.{faced_by, Lowered}
use Rattle.grant.proofs.Cut.{lowered-off}
use Rattle.grant.proofs.Rules.{facing, faced-low, faced-rule}
use mathlib.Core.Bool.{not}
use Rattle.grant.proofs.lower_at.Goals as goal

pub covers_at-requires : goal.covers_at-requires
covers_at-requires c = let p = c.requires in (p.0.laid, p.1)

pub returns-then-not-covers_at : goal.returns-then-not-covers_at
unfolding covers_offer
returns-then-not-covers_at c =
    let start = c in
    let args = start.args in
    let p = start.requires in
    let xs = args.m.now in
    let a = account_in xs (faced_by xs args.o args.i) in
    let is = faced-rule p.0.laid p.1 refl refl args.o p.0.unit refl refl in
    let test = c.covers_at.ensures in (
      record {
        root = lowered-off args.o a is test (decode xs).log (Root args.o.root) args.cuts.root (ap not c.if-not-covers_at.true);
        firm = lowered-off args.o a is test (decode xs).log Firm args.cuts.firm (ap not c.if-not-covers_at.true);
      },
      p.3,
    )

pub rule_in-rule-requires : goal.rule_in-rule-requires
rule_in-rule-requires c = let p = c.requires in (p.0.laid, p.1)

pub overflow_add-place : goal.overflow_add-place
overflow_add-place c =
    let start = c in
    let p = start.requires in
    omega (arith, laid-few p.0.laid, faced-low p.0.laid p.1 p.2 c.rule_in-rule.ensures start.args.o p.0.unit c.place_of.ensures)

pub lower-requires : goal.lower-requires
lower-requires c =
    let start = c in
    let o = start.args.o in
    let p = start.requires in
    let is = c.rule_in-rule.ensures in
    let own = c.of_unit-own.ensures in (
      p.0,
      faced-low p.0.laid p.1 p.2 is o p.0.unit c.place_of.ensures,
      faced-rule p.0.laid p.1 p.2 is o p.0.unit c.place_of.ensures own,
      p.3,
      ap (covers_offer o) (own ∙ ap (λ (q : Rule). of_unit q o.unit) is) ∙ sym c.covers_at.ensures ∙ not-false c.covers_at.result (ap not c.if-not-covers_at.false),
    )

pub returns : goal.returns
returns c =
    let start = c in
    let args = start.args in
    let p = start.requires in
    let at = facing p.0.laid p.1 p.2 c.rule_in-rule.ensures args.o p.0.unit c.place_of.ensures in
    (subst (λ (j : ℕ). Lowered args.m.now args.o j args.cuts c.lower.result) at c.lower.ensures.0, c.lower.ensures.1)
