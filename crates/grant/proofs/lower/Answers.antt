-- `grant::lower` meets its contract: the rule is of the offer's root or of the firm, and lowers that cut alone. Assumes nothing.
use mathlib.Core.Path.{refl, sym, ap, ◌∙◌, subst}
use Rattle.rules.specs.Amounts.{is_of}
use Rattle.rules.specs.Rules.{InRange}
use Rattle.rules.specs.declared.Rule.{Rule}
use Rattle.rules.proofs.Amounts.{of-in}
use Rattle.machine.specs.Offers.{covers_offer}
use Rattle.state.specs.State.{decode}
use Rattle.state.specs.Inner.Laid.{account_in}
use Rattle.state.proofs.Laid.{laid-in-range}
use Rattle.grant.proofs.Cut.{lowered-firm, lowered-root, allows-is}
use Rattle.grant.proofs.lower.Goals as goal

pub allowance-most-requires : goal.allowance-most-requires
allowance-most-requires c =
    let start = c in
    let p = start.requires in
    let limit = start.args.rule.limit in (
      subst (λ (r : Rule). InRange r.limit) (sym p.2) (laid-in-range p.0.laid p.1).0,
      ap (is_of limit) c.counted_by-counted.ensures.amount ∙ of-in limit _,
      p.0.premium.0,
    )

pub returns-then-is_firm : goal.returns-then-is_firm
unfolding covers_offer
returns-then-is_firm c =
    let start = c in
    let args = start.args in
    let xs = args.m.now in
    let a = account_in xs args.i in
    let at_most = c in
    let told = at_most in
    let is = start.requires.2 in
    let allows = allows-is (decode xs).log args.o a is told.counted_by-counted.ensures.amount at_most.allowance-most.ensures in
    let covered = sym start.requires.4 in
    let firm = c.is_firm.ensures in (
      record {
        root = sym (rw c.if-is_firm.true at (lowered-root args.o a is covered refl firm (decode xs).log allows args.cuts.root));
        firm = c.min.ensures ∙ sym (rw c.if-is_firm.true at (lowered-firm args.o a is covered refl firm (decode xs).log allows args.cuts.firm));
      },
      told.counted_by-counted.ensures.memos_after.0,
    )

pub returns : goal.returns
unfolding covers_offer
returns c =
    let start = c in
    let args = start.args in
    let xs = args.m.now in
    let a = account_in xs args.i in
    let at_most = c in
    let told = at_most in
    let is = start.requires.2 in
    let allows = allows-is (decode xs).log args.o a is told.counted_by-counted.ensures.amount at_most.allowance-most.ensures in
    let covered = sym start.requires.4 in
    let firm = c.is_firm.ensures in (
      record {
        root = c.min-2.ensures ∙ sym (rw c.if-is_firm.false at (lowered-root args.o a is covered refl firm (decode xs).log allows args.cuts.root));
        firm = sym (rw c.if-is_firm.false at (lowered-firm args.o a is covered refl firm (decode xs).log allows args.cuts.firm));
      },
      told.counted_by-counted.ensures.memos_after.0,
    )
