-- `counting::left` meets its contract: the account of the rule for the unit is the one that is asked for. Assumes nothing.
use Prim.Native.Nat.{ℕ, ◌<◌}
use mathlib.Core.Path.{sym, ap, ap₂, ◌∙◌, subst}
use lib.ListN.{length}
use Rattle.rules.specs.Amounts.{amount_in}
use Rattle.rules.specs.Units.{of_unit}
use Rattle.rules.specs.declared.Rule.{Rule}
use Rattle.machine.specs.State.{rules_in}
use Rattle.machine.specs.Remaining.{RuleAndUnit, account_at, account_for, left_of}
use Rattle.machine.proofs.Units.{place-low, account-rule}
use Rattle.state.specs.State.{decode}
use Rattle.state.specs.Inner.Laid.{account_in}
use Rattle.counting.proofs.left.Goals as goal

pub left_of-requires : goal.left_of-requires
unfolding account_for account_at rules_in
left_of-requires c =
    let start = c in
    let p = start.requires in
    let s = decode start.args.m.now in
    let rule = start.args.rule in
    let unit = start.args.unit in
    let asked : RuleAndUnit (rules_in s) rule unit = record { known = p.1; unit_known = p.2 } in
    let place = sym c.account_at-place.ensures in
    let own = c.of_unit.ensures ∙ ap (λ (r : Rule). of_unit r unit) c.rule_in-own.ensures in (
      p.0,
      subst (λ (i : ℕ). i < length s.part.accounts) place (place-low s p.0.fits.fitting rule unit asked),
      own ∙ sym (account-rule s p.0.fits.fitting rule unit asked) ∙ ap (λ (i : ℕ). (account_in start.args.m.now i).rule) place,
      p.3,
    )

pub returns : goal.returns
unfolding account_for account_at rules_in of_unit
returns c =
    let start = c in
    let s = decode start.args.m.now in
    c.left_of.ensures
    ∙ ap₂ (λ (r : Rule) (i : ℕ). amount_in r.limit (left_of s start.args.time (account_in start.args.m.now i)))
    (c.of_unit.ensures ∙ ap (λ (r : Rule). of_unit r start.args.unit) c.rule_in-own.ensures) c.account_at-place.ensures
