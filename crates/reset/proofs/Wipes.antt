-- The totals of a rule's accounts that are zeroed. Assumes nothing.
use Prim.Native.Nat.{ℕ, zero, suc, ◌+◌, ◌-◌, ◌≤◌, ◌<◌}
use native.Mathlib.Omega.{arith}
use mathlib.Core.Path.{◌≡◌, refl, sym, ap, ◌∙◌, subst}
use mathlib.Core.Bool.{Bool, true, false, cond}
use mathlib.Core.List.{List}
use lib.ListN.{length}
use Rattle.rules.specs.Amounts.{amount_in, is_of}
use Rattle.rules.specs.Rules.{level_of}
use Rattle.rules.specs.Units.{units_of, of_unit}
use Rattle.rules.specs.declared.Amount.{Amount}
use Rattle.rules.specs.declared.Level.{Level}
use Rattle.rules.specs.declared.Limit.{Limit}
use Rattle.rules.specs.declared.Rule.{Rule}
use Rattle.rules.specs.declared.Account.{Account}
use Rattle.rules.proofs.Amounts.{of-in}
use Rattle.rules.proofs.Units.{units-some, unit-level}
use Rattle.machine.specs.State.{rules_in, Fitting}
use Rattle.machine.specs.Remaining.{rule_numbered, first_cell}
use Rattle.machine.specs.Order.{wiped}
use Rattle.machine.proofs.Walk.{cells-next, own-rule}
use Rattle.state.specs.State.{stored, decode}
use Rattle.state.specs.Inner.Laid.{Laid, account_in, with_total}
use Rattle.state.proofs.Walked.{place-within}
use Rattle.state.proofs.Done.{is_measured, Fair, change-none}
use Rattle.state.proofs.Between.{Passing, passing-none, passing-at, passing-more}

-- a total that is zeroed stays in its rule's measure
pub wiped-fair : (zeroes : Level → Bool) → Fair (wiped zeroes)
unfolding wiped
wiped-fair zeroes = record { rule = λ a. refl; measured = λ a h. go a h (zeroes (level_of a.rule.scope)) }
  where
    go : (a : Account) → is_measured a ≡ true → (b : Bool) → is_of a.rule.limit (cond b (amount_in a.rule.limit 0) a.total) ≡ true
    go a h true = of-in a.rule.limit 0
    go a h false = h

-- the accounts of rule r stand from a place up to that of the next rule's
module _ {xs : List ℕ} (h : Laid xs) {r place next : ℕ} (low : r < length (rules_in (decode xs))) (from : place ≡ first_cell (rules_in (decode xs)) r)
    (to : next ≡ first_cell (rules_in (decode xs)) (r + 1)) where
  abbrev rules : List Rule
  rules = rules_in (decode xs)

  abbrev rule : Rule
  rule = rule_numbered rules r

  abbrev many : ℕ
  many = length (units_of rule.scope)

  past : next ≡ first_cell rules r + many
  past = to ∙ cells-next rules r low

  pub place-next : place < next
  place-next = omega (arith, from, past, units-some rule.scope)

  -- each has the level and the limit of the rule
  abbrev Own : Account → Type 0
  Own a = (level_of a.rule.scope ≡ level_of rule.scope) × (a.rule.limit ≡ rule.limit)

  own-account : (k : ℕ) → k < many → Own (account_in xs (first_cell rules r + k))
  unfolding rules_in Fitting of_unit
  own-account k few =
      let e = own-rule (decode xs).part.accounts rules h.fits.fitting r low k few in
      (ap (λ (r : Rule). level_of r.scope) e ∙ unit-level rule.scope _, ap (λ (r : Rule). r.limit) e)

  own : (j : ℕ) → place ≤ j → j < next → Own (account_in xs j)
  own j least less =
      subst (λ (n : ℕ). Own (account_in xs n)) (omega (arith, from)) (own-account (j - first_cell rules r) (omega (arith, from, past)))

  module _ (zeroes : Level → Bool) where
    -- a rule whose totals are zeroed: one more of them
    pub wiped-on : {j : ℕ} {ys zs : List ℕ} {total : Amount} → zeroes (level_of rule.scope) ≡ true → j < next → Passing (wiped-fair zeroes) xs place j ys
        → total ≡ amount_in rule.limit 0 → zs ≡ stored (with_total (decode ys) j total) ys → Passing (wiped-fair zeroes) xs place (j + 1) zs
    unfolding wiped
    wiped-on {j} {ys} on less w e z =
        let fair = wiped-fair zeroes in
        let a = account_in ys j in
        let its : Own a = subst Own (sym (passing-at fair h w)) (own j w.from less) in
        let zero = e ∙ ap (λ (l : Limit). amount_in l 0) (sym its.1) ∙ ap (λ (b : Bool). cond b (amount_in a.rule.limit 0) a.total) (sym (ap zeroes its.0 ∙ on)) in
        passing-more fair h w (omega (arith, place-within h (r + 1) to)) (z ∙ ap (λ (t : Amount). stored (with_total (decode ys) j t) ys) zero)

    -- any other rule: each stays as it is
    module _ (off : zeroes (level_of rule.scope) ≡ false) where
      stays : (j : ℕ) → place ≤ j → j < next → wiped zeroes (account_in xs j) ≡ account_in xs j
      unfolding wiped
      stays j least less =
          let a = account_in xs j in
          (λ i. record { rule = a.rule; total = cond ((ap zeroes (own j least less).0 ∙ off) i) (amount_in a.rule.limit 0) a.total })

      abbrev Passed : ℕ → Type 0
      Passed j = Passing (wiped-fair zeroes) xs place j xs

      passed : (k : ℕ) → place + k ≤ next → Passed (place + k)
      passed zero most = subst Passed (omega arith) (passing-none (wiped-fair zeroes) h place)
      passed (suc k) most =
          let more = change-none (wiped zeroes) (place + k) h (stays (place + k) (omega arith) (omega (arith, most))) in
          subst Passed (omega arith) (passing-more (wiped-fair zeroes) h (passed k (omega (arith, most))) (omega (arith, most, place-within h (r + 1) to)) more)

      pub wiped-off : Passed next
      wiped-off = subst Passed (omega (arith, place-next)) (passed (next - place) (omega (arith, place-next)))
