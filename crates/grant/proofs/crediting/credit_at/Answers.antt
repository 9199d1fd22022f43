-- `grant::credit_at` meets its contract: a rule that does not cover the offer leaves every number, and of any other one account is credited. Assumes nothing.
use Prim.Native.Nat.{ℕ}
use native.Mathlib.Omega.{arith}
use mathlib.Core.Path.{◌≡◌, refl, sym, ap, ◌∙◌, subst}
use mathlib.Core.Bool.{Bool, true, not, ◌&&◌, ◌||◌, or-false}
use borrow.Author.Tests.{not-false}
use Rattle.rules.specs.Rules.{is_rate}
use Rattle.rules.specs.Units.{of_unit}
use Rattle.rules.specs.Valid.{is_total}
use Rattle.rules.specs.declared.Level.TheVariants.{Firm, Root}
use Rattle.rules.specs.declared.Rule.{Rule}
use Rattle.machine.specs.Offers.{covers_offer, credited}
use Rattle.state.specs.Inner.Laid.{account_in}
use Rattle.state.proofs.Laid.{laid-few}
use Rattle.state.proofs.Done.{change-none}
use Rattle.grant.specs.Inner.Grant.{faced_by}
use Rattle.grant.proofs.Accounts.{credited-there}
use Rattle.grant.proofs.Credits.{credited-off, fills-off}
use Rattle.grant.proofs.Rules.{facing, faced-low, faced-rule}
use Rattle.grant.proofs.crediting.credit_at.Goals as goal

pub rises_at-requires : goal.rises_at-requires
rises_at-requires c = let p = c.requires in (p.0.laid, p.1)

pub returns-then-not-rises_at : goal.returns-then-not-rises_at
unfolding covers_offer of_unit
returns-then-not-rises_at c =
    let start = c in
    let args = start.args in
    let o = args.o in
    let p = start.requires in
    let j = faced_by args.m.now o args.i in
    let a = account_in args.m.now j in
    let is = faced-rule p.0.laid p.1 refl refl o p.0.unit refl refl in
    let none = ap not (sym c.rises_at.ensures) ∙ (ap not c.if-not-rises_at.true) in
    record {
      memory = change-none (credited o args.grant) j p.0.laid (credited-off o args.grant a is refl refl none);
      root = sym (ap (λ (b : Bool). args.before.root || b) (fills-off o args.grant a is refl refl (Root o.root) none) ∙ or-false args.before.root);
      firm = sym (ap (λ (b : Bool). args.before.firm || b) (fills-off o args.grant a is refl refl Firm none) ∙ or-false args.before.firm);
    }

pub rule_in-rule-requires : goal.rule_in-rule-requires
rule_in-rule-requires c = let p = c.requires in (p.0.laid, p.1)

pub overflow_add-place : goal.overflow_add-place
overflow_add-place c =
    let start = c in
    let p = start.requires in
    omega (arith, laid-few p.0.laid, faced-low p.0.laid p.1 p.2 c.rule_in-rule.ensures start.args.o p.0.unit c.place_of.ensures)

pub credit_one-requires : goal.credit_one-requires
unfolding of_unit
credit_one-requires c =
    let start = c in
    let o = start.args.o in
    let xs = start.args.m.now in
    let p = start.requires in
    let is = c.rule_in-rule.ensures in
    let own = c.of_unit-own.ensures in
    let at = facing p.0.laid p.1 p.2 is o p.0.unit c.place_of.ensures in (
      p.0.laid,
      faced-low p.0.laid p.1 p.2 is o p.0.unit c.place_of.ensures,
      faced-rule p.0.laid p.1 p.2 is o p.0.unit c.place_of.ensures own,
      subst (λ (j : ℕ). is_total (account_in xs j).rule (account_in xs j).total ≡ true) (sym at) p.3,
      p.0.premium,
      p.0.most,
      ap (λ (q : Rule). not (is_rate q.kind) && covers_offer o q) (own ∙ ap (λ (q : Rule). of_unit q o.unit) is) ∙ sym c.rises_at.ensures ∙ not-false c.rises_at.result (ap not c.if-not-rises_at.false),
    )

pub returns : goal.returns
returns c =
    let start = c in
    let args = start.args in
    let p = start.requires in
    let at = facing p.0.laid p.1 p.2 c.rule_in-rule.ensures args.o p.0.unit c.place_of.ensures in
    credited-there at c.credit_one.ensures
