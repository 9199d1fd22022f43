-- One account credited with a grant: as the code finds its rule, and as memory holds it. Assumes nothing.
use Prim.Native.Nat.{ℕ, ◌+◌, ◌<◌}
use mathlib.Core.Path.{◌≡◌, refl, sym, ap, ap₂, ◌∙◌}
use mathlib.Core.Bool.{Bool, true, false, cond, not, ◌&&◌, false≢true}
use mathlib.Core.List.{List}
use lib.ListN.{length}
use lib.Dec.{eqb}
use Rattle.rules.specs.Rules.{covers, is_rate, added, ceiling, level_of, held}
use Rattle.rules.specs.Amounts.{number_of, amount_in, is_of}
use Rattle.rules.specs.declared.Level.{Level}
use Rattle.rules.specs.declared.Rule.{Rule}
use Rattle.rules.specs.declared.Amount.{Amount}
use Rattle.rules.specs.declared.Account.{Account}
use Rattle.rules.proofs.Amounts.{of-in}
use Rattle.machine.specs.declared.Offer.{Offer}
use Rattle.machine.specs.Offers.{covers_offer, same_level, credited}
use Rattle.machine.specs.Remaining.{no_account}
use Rattle.machine.proofs.Totals.{is_paid}
use Rattle.laws.proofs.Every.{every-at}
use Rattle.state.specs.State.{stored, decode}
use Rattle.state.specs.Inner.Laid.{account_in, with_total}
use Rattle.state.proofs.Done.{is_measured, Fair, change_at}
use Rattle.grant.specs.Inner.Grant.{concerns, fills_by, are_totals}
use Rattle.rules.specs.declared.Kind.TheVariants.{Absolute}

-- a rule, as the code finds it: whether it is absolute, and whether it covers the offer
module _ (o : Offer) (grant : ℕ) (a : Account) {rule : Rule} {x y : Bool} (is : rule ≡ a.rule) (absolute : x ≡ not (is_rate rule.kind))
    (inside : y ≡ covers rule.scope o.root o.unit) where
  both : (b : Bool) → not (x && y) ≡ not b → (not (is_rate a.rule.kind) && covers_offer o a.rule) ≡ b
  unfolding covers_offer
  both b e =
      sym (ap₂ (λ (p q : Bool). p && q) (absolute ∙ ap (λ (r : Rule). not (is_rate r.kind)) is)
      (inside ∙ ap (λ (r : Rule). covers r.scope o.root o.unit) is))
      ∙ same (x && y) b e
    where
      same : (p q : Bool) → not p ≡ not q → p ≡ q
      same true true e = refl
      same true false e = absurd (false≢true e)
      same false true e = absurd (false≢true (sym e))
      same false false e = refl

  -- any other rule keeps its total, and is not filled
  pub credited-off : not (x && y) ≡ true → credited o grant a ≡ a
  unfolding credited
  credited-off out =
      λ k. record { rule = a.rule; total = go (is_rate a.rule.kind) (covers_offer o a.rule) a.total (amount_in a.rule.limit (held Absolute (number_of a.total + added a.rule.limit o.premium grant))) (both false out) k }
    where
      go : (r i : Bool) (t n : Amount) → (not r && i) ≡ false → cond r t (cond i n t) ≡ t
      go true i t n h = refl
      go false true t n h = absurd (false≢true (sym h))
      go false false t n h = refl

  pub fills-off : (level : Level) → not (x && y) ≡ true → (concerns o level a && fills_by o grant a) ≡ false
  unfolding concerns fills_by
  fills-off level out = go (same_level (level_of a.rule.scope) level) (covers_offer o a.rule) (is_rate a.rule.kind) _ (both false out)
    where
      go : (s i r n : Bool) → (not r && i) ≡ false → ((s && i) && cond r false n) ≡ false
      go true true true n h = refl
      go true true false n h = absurd (false≢true (sym h))
      go true false r n h = refl
      go false i r n h = refl

  -- an absolute rule that covers the offer
  pub credited-on : not (x && y) ≡ false → (credited o grant a).total ≡ amount_in a.rule.limit (held Absolute (number_of a.total + added a.rule.limit o.premium grant))
  unfolding credited
  credited-on h =
      go (is_rate a.rule.kind) (covers_offer o a.rule) a.total
      (amount_in a.rule.limit (held Absolute (number_of a.total + added a.rule.limit o.premium grant))) (both true h)
    where
      go : (r i : Bool) (t n : Amount) → (not r && i) ≡ true → cond r t (cond i n t) ≡ n
      go true i t n h = absurd (false≢true h)
      go false true t n h = refl
      go false false t n h = absurd (false≢true h)

  pub fills-on : not (x && y) ≡ false → fills_by o grant a ≡ eqb (number_of a.total + added a.rule.limit o.premium grant) (ceiling a.rule.limit)
  unfolding fills_by
  fills-on h = go (is_rate a.rule.kind) (covers_offer o a.rule) _ (both true h)
    where
      go : (r i n : Bool) → (not r && i) ≡ true → cond r false n ≡ n
      go true i n h = absurd (false≢true h)
      go false i n h = refl

module _ (o : Offer) (grant : ℕ) where
  same-rule : (a : Account) → (credited o grant a).rule ≡ a.rule
  unfolding credited
  same-rule a = refl

  -- a total stays in its rule's measure
  same-measure : (a : Account) → is_measured a ≡ true → is_measured (credited o grant a) ≡ true
  unfolding credited
  same-measure a h = go (is_rate a.rule.kind) (covers_offer o a.rule)
    where
      more : Amount
      more = amount_in a.rule.limit (held Absolute (number_of a.total + added a.rule.limit o.premium grant))

      go : (r i : Bool) → is_of a.rule.limit (cond r a.total (cond i more a.total)) ≡ true
      go true i = h
      go false true = of-in a.rule.limit (held Absolute (number_of a.total + added a.rule.limit o.premium grant))
      go false false = h

  pub credit-fair : Fair (credited o grant)
  credit-fair = record { rule = same-rule; measured = same-measure }

-- a total of a memory whose totals are in range
pub laid-totals : (xs : List ℕ) (i : ℕ) → are_totals (decode xs) ≡ true → i < length (decode xs).part.accounts → is_paid (account_in xs i) ≡ true
laid-totals xs i h l = every-at is_paid (decode xs).part.accounts i no_account h l

-- account i of a memory has the total after the grant
pub put-credited : (xs : List ℕ) (i : ℕ) (o : Offer) (grant : ℕ) {ys : List ℕ} {total : Amount} → total ≡ (credited o grant (account_in xs i)).total
    → ys ≡ stored (with_total (decode xs) i total) xs → ys ≡ stored (change_at (credited o grant) i (decode xs)) xs
unfolding credited
put-credited xs i o grant e put = put ∙ ap (λ (t : Amount). stored (with_total (decode xs) i t) xs) e
