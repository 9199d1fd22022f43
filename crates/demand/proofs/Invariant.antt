-- The state tells what the deeds tell: the invariant. Assumes nothing.
use Prim.Native.Nat.{ℕ, ◌≤◌, ◌<◌}
use mathlib.Core.Path.{◌≡◌}
use mathlib.Core.Bool.{true}
use mathlib.Core.List.{List, [], ◌∷◌, map}
use native.Mathlib.Nat.{le_refl}
use Rattle.measures.specs.Ranges.{totals}
use Rattle.rules.specs.Rules.{held, ceiling}
use Rattle.rules.specs.Allowance.{All}
use Rattle.rules.specs.Units.{of_unit}
use Rattle.rules.specs.declared.Level.{Level}
use Rattle.rules.specs.declared.Rule.{Rule}
use Rattle.rules.specs.declared.Account.{Account}
use Rattle.rules.specs.Valid.{has_rate}
use Rattle.machine.specs.State.{Profile, State, cells_of, roots_in, account_rule}
use Rattle.machine.specs.Deeds.{Deed, clock_after}
use Rattle.machine.specs.Locks.{is_tripped, is_by_user}
use Rattle.machine.specs.Offers.{counted, longest}
use Rattle.machine.specs.Register.{is_open, sent_at}
use Rattle.machine.proofs.Cells.{cells-all}
use Rattle.machine.proofs.Register.{Registered}
use Rattle.demand.specs.Away.{sent_in}
use Rattle.demand.specs.Locked.{counted_in}
use Rattle.demand.specs.Answers.{tripped_in, by_user_in, open_in}
use Rattle.demand.proofs.Past.{Kept}
use Rattle.demand.proofs.Counted.{Fits, all_fit}

-- the clock that deeds leave
unfoldable pub clock_in : List Deed → ℕ
clock_in [] = 0
clock_in (deed ∷ earlier) = clock_after deed (clock_in earlier)

-- from the clock on, what is counted for a rule is what the deeds have for it, held; and the rule's limit lies below what totals are held at
pub record Right (s : State) (h : List Deed) (a : Account) : Type 0 where
  pub low : ceiling a.rule.limit < totals.most
  pub counts : (t : ℕ) → s.part.clock ≤ t → counted s.log t a ≡ held a.rule.kind (counted_in a.rule h t)

-- the state has the profile and its rules' accounts, counts what the deeds have, each grant found room, and marks, clock and register are what the
-- deeds say
pub record Inv (p : Profile) (s : State) (h : List Deed) : Type 0 where
  pub profile : s.part.profile ≡ p
  pub same : map account_rule s.part.accounts ≡ cells_of p.rules
  pub right : All (Right s h) s.part.accounts
  pub kept : All (λ rule. Kept rule h) (cells_of p.rules)
  pub tripped : (level : Level) → is_tripped s.part.locks level ≡ tripped_in p.rules level h
  pub by_user : (level : Level) → is_by_user s.part.locks level ≡ by_user_in level h
  pub clock : s.part.clock ≡ clock_in h
  pub registered : Registered (roots_in s) s.part.register
  pub opened : (identity : ℕ) → is_open s.part.register identity ≡ open_in identity h
  pub orders : (identity : ℕ) → is_open s.part.register identity ≡ true → sent_at s.part.register identity ≡ sent_in identity h

-- the windows of the accounts are those of the rules
pub cells_fit : (rules : List Rule) → All (λ rule. Fits (longest rules) (has_rate rules) rule.kind) (cells_of rules)
unfolding of_unit
cells_fit rules =
    cells-all (λ rule. Fits (longest rules) (has_rate rules) rule.kind) (λ rule. Fits (longest rules) (has_rate rules) rule.kind)
    (λ rule unit known fits. fits) rules
    (all_fit rules (longest rules) (has_rate rules) (le_refl (longest rules)) (λ e. e))
