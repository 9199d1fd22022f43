-- Each unit counts for itself: which account a rule has for a unit, that a reset zeroes those of all its units, and that a fill on one unit leaves
-- those of the others. Assumes nothing.
use Prim.Native.Nat.{ℕ, ◌<◌}
use mathlib.Core.Path.{◌≡◌, refl, sym, ap, ◌∙◌}
use mathlib.Core.Bool.{Bool, true, false, cond, and-false}
use mathlib.Core.List.{List, map}
use lib.ListN.{length, get_or, length-map, get_or-map}
use lib.Dec.{eqb}
use borrow.Author.Tests.{ne_eqb}
use Rattle.rules.specs.Rules.{level_of, covers, is_rate}
use Rattle.rules.specs.Units.{scope_for, of_unit}
use Rattle.rules.specs.declared.Level.{Level}
use Rattle.rules.specs.declared.Scope.TheVariants.{WholeRoot}
use Rattle.rules.specs.declared.Rule.{Rule}
use Rattle.rules.specs.declared.Account.{Account}
use Rattle.rules.proofs.Units.{unit-level}
use Rattle.machine.specs.declared.Offer.{Offer}
use Rattle.machine.specs.declared.Effect.{Effect}
use Rattle.machine.specs.State.{State, rules_in, account_rule, Fitting, fresh}
use Rattle.machine.specs.Effects.{zeroing}
use Rattle.machine.specs.Deeds.{Source, filling, resetting}
use Rattle.machine.specs.Order.{wiped}
use Rattle.machine.specs.Offers.{covers_offer, credited}
use Rattle.machine.specs.Remaining.{no_account, rule_numbered, RuleAndUnit, cell_at, account_at, account_for}
use Rattle.machine.specs.Step.{accounts_after, part_after}
use Rattle.machine.proofs.Lists.{map_at}
use Rattle.machine.proofs.Cells.{cell-place}

-- an account of a rule whose level is zeroed
wiped-zero : (zeroes : Level → Bool) (a : Account) (rule : Rule) → a.rule ≡ rule → zeroes (level_of rule.scope) ≡ true → wiped zeroes a ≡ fresh rule
unfolding wiped fresh
wiped-zero zeroes a rule is zeroed = rw (ap (λ (r : Rule). zeroes (level_of r.scope)) is ∙ zeroed) (ap fresh is)

-- an account of a rule that does not cover the offer
credited-none : (o : Offer) (n : ℕ) (a : Account) → covers_offer o a.rule ≡ false → credited o n a ≡ a
unfolding credited
credited-none o n a out = rw out (go (is_rate a.rule.kind))
  where
    go : (b : Bool) → record { rule = a.rule; total = cond b a.total a.total } ≡ a
    go true = refl
    go false = refl

module _ (s : State) (fits : Fitting s.part) (rule unit : ℕ) (asked : RuleAndUnit (rules_in s) rule unit) where
  abbrev accounts : List Account
  accounts = s.part.accounts

  -- the account of the rule for the unit
  abbrev account : Account
  account = account_for s.part rule unit

  -- its place holds one
  pub place-low : cell_at (rules_in s) rule unit < length accounts
  unfolding rules_in Fitting
  place-low = rw (← (length-map accounts account_rule), fits) (cell-place (rules_in s) rule unit no_account.rule asked.known asked.unit_known).0

  -- it is of the rule, as it counts for the unit
  pub account-rule : account.rule ≡ of_unit (rule_numbered (rules_in s) rule) unit
  unfolding account_for account_at rules_in Fitting
  account-rule =
      sym (get_or-map account_rule accounts (cell_at (rules_in s) rule unit) no_account)
      ∙ (ap (λ (cells : List Rule). get_or cells (cell_at (rules_in s) rule unit) no_account.rule) fits
      ∙ (cell-place (rules_in s) rule unit no_account.rule asked.known asked.unit_known).1)

  -- where each account is put through a function, so is this one
  each-account : (f : Account → Account) → account_at (map f accounts) (cell_at (rules_in s) rule unit) ≡ f account
  unfolding account_for account_at rules_in
  each-account f = map_at f accounts (cell_at (rules_in s) rule unit) no_account no_account place-low

  -- a reset that zeroes the rule's level zeroes it, whichever of the rule's units it is for
  pub reset-zeroes : (time root : ℕ) (effect : Effect) → zeroing effect root (level_of (rule_numbered (rules_in s) rule).scope) ≡ true
      → account_for (part_after (resetting time root effect) s) rule unit ≡ fresh (of_unit (rule_numbered (rules_in s) rule) unit)
  unfolding part_after accounts_after account_for rules_in of_unit
  reset-zeroes time root effect zeroed =
      each-account (wiped (zeroing effect root))
      ∙ wiped-zero (zeroing effect root) account (of_unit (rule_numbered (rules_in s) rule) unit) account-rule
      (ap (zeroing effect root) (unit-level (rule_numbered (rules_in s) rule).scope unit) ∙ zeroed)

  -- a fill on another unit leaves it, where the rule is one without unit fields
  pub fill-elsewhere : (root : ℕ) → (rule_numbered (rules_in s) rule).scope ≡ WholeRoot root → (source : Source) (o : Offer) (n : ℕ) → (unit ≡ o.unit → ⊥)
      → account_for (part_after (filling source o n) s) rule unit ≡ account
  unfolding part_after accounts_after account_for rules_in covers_offer covers of_unit scope_for
  fill-elsewhere root whole source o n other =
      each-account (credited o n)
      ∙ credited-none o n account
      (ap (covers_offer o) account-rule
      ∙ rw (whole, ne_eqb unit o.unit other) (and-false (eqb root o.root)))
