-- `grant::credit_one` meets its contract: the total of the account rises, and no other number changes. Assumes nothing.
use Prim.Native.Nat.{ℕ, ◌+◌, min}
use mathlib.Core.Path.{◌≡◌, refl, sym, ap, ap₂, ◌∙◌, subst}
use mathlib.Core.Bool.{Bool, not, ◌&&◌, ◌||◌}
use lib.Dec.{eqb}
use Rattle.laws.proofs.Tests.{and_r}
use Rattle.measures.specs.Ranges.{In, totals}
use Rattle.rules.specs.Amounts.{number_of, amount_in, is_of}
use Rattle.rules.specs.Rules.{InRange, is_rate, added, ceiling, held}
use Rattle.rules.specs.declared.Kind.TheVariants.{Absolute}
use Rattle.rules.proofs.Held.{ceiling-low, held-full}
use Rattle.rules.specs.declared.Amount.{Amount}
use Rattle.rules.specs.declared.Rule.{Rule}
use Rattle.rules.specs.declared.Account.{Account}
use Rattle.rules.proofs.Amounts.{number_in, of-in}
use Rattle.machine.proofs.Totals.{total-in}
use Rattle.state.specs.Inner.Laid.{account_in}
use Rattle.machine.specs.Offers.{covers_offer}
use Rattle.state.proofs.Laid.{laid-in-range, laid-measured}
use Rattle.grant.proofs.Cut.{concerns-firm, concerns-root}
use Rattle.grant.proofs.Credits.{credited-on, fills-on, put-credited}
use Rattle.grant.proofs.crediting.credit_one.Goals as goal

pub total_in-total-requires : goal.total_in-total-requires
total_in-total-requires c = let p = c.requires in (p.0, p.1, ap (λ (r : Rule). r.limit) p.2)

pub filled-account-requires : goal.filled-account-requires
filled-account-requires c =
    let start = c in
    let p = start.requires in
    let a = account_in start.args.m.now start.args.i in (
      (λ k. is_of (p.2 k).limit (c.total_in-total.ensures k)) ∙ laid-measured p.0 p.1,
      subst (λ (t : Amount). In totals (number_of t)) (sym c.total_in-total.ensures) (total-in a.rule a.total p.3).1,
      p.4,
      p.5,
    )

pub reached-full-requires : goal.reached-full-requires
reached-full-requires c =
    let start = c in
    let p = start.requires in
    let limit = start.args.rule.limit in (
      subst (λ (r : Rule). InRange r.limit) (sym p.2) (laid-in-range p.0 p.1).0,
      ap (λ (b : Account). is_of limit b.total) c.filled-account.ensures ∙ of-in limit _,
    )

pub returns : goal.returns
unfolding held covers_offer
returns c =
    let at-filled = c in
    let start = at-filled in
    let args = start.args in
    let o = args.o in
    let a = account_in args.m.now args.i in
    let is = start.requires.2 in
    let x = not (is_rate args.rule.kind) in
    let y = covers_offer o args.rule in
    let some = ap not start.requires.6 in
    let covered = ap not (and_r x y start.requires.6) in
    let raised : at-filled.filled-account.result.total ≡ amount_in a.rule.limit (held Absolute (number_of a.total + added a.rule.limit o.premium args.grant)) =
    ap (λ (b : Account). b.total) at-filled.filled-account.ensures
    ∙ ap₂ (λ (t : Amount) (r : Rule). amount_in r.limit (min (number_of t + added r.limit o.premium args.grant) totals.most)) at-filled.total_in-total.ensures is in
    let firm = c.is_firm-firm.ensures in
    let full =
    c.reached-full.ensures ∙ ap₂ (λ (n : ℕ) (r : Rule). eqb n (ceiling r.limit)) (ap number_of raised ∙ number_in a.rule.limit _) is
    ∙ held-full (ceiling a.rule.limit) (ceiling-low a.rule.limit (laid-in-range start.requires.0 start.requires.1).0) _
    ∙ sym (fills-on o args.grant a is refl refl some) in
    record {
      memory = put-credited args.m.now args.i o args.grant (raised ∙ sym (credited-on o args.grant a is refl refl some)) c.put_total.ensures;
      root = ap₂ (λ (b f : Bool). args.before.root || (b && f)) (sym (concerns-root o a is refl covered firm)) full;
      firm = ap₂ (λ (b f : Bool). args.before.firm || (b && f)) (sym (concerns-firm o a is refl covered firm)) full;
    }
