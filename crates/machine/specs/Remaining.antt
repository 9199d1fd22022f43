-- What remains of a limit, and how the roots stand. Assumes nothing.
use Rattle.std.specs.Prelude.{ℕ, ◌+◌, ◌-◌, ◌<◌, ◌≡◌, Bool, true, ◌&&◌, List, length, get_or, take, ltb}
use Rattle.bits.specs.Locks.{standing_of}
use Rattle.bits.specs.declared.Standing.{Standing}
use Rattle.rules.specs.Rules.{ceiling}
use Rattle.rules.specs.Units.{is_unit_of, place_in}
use Rattle.rules.specs.declared.Scope.TheVariants.{EveryFill}
use Rattle.rules.specs.declared.Kind.TheVariants.{Absolute}
use Rattle.rules.specs.declared.Limit.TheVariants.{Count}
use Rattle.rules.specs.declared.Amount.TheVariants.{Count as Fills}
use Rattle.rules.specs.declared.Rule.{Rule}
use Rattle.rules.specs.declared.Account.{Account}
use Rattle.machine.specs.State.{Part, State, Locks, cells_of}
use Rattle.machine.specs.Offers.{counted}

-- stands for a rule that there is none of: `refusal_of` lets no call reach it
unfoldable pub no_account : Account
no_account = record { rule = record { scope = EveryFill; kind = Absolute; limit = Count (record { 0 = 0 }) }; total = Fills (record { 0 = 0 }) }

-- the rule with a number, by line from 0
unfoldable pub rule_numbered : List Rule → ℕ → Rule
rule_numbered rules rule = get_or rules rule no_account.rule

-- there is such a rule, and it counts for such a unit
unfoldable pub is_cell : List Rule → ℕ → ℕ → Bool
is_cell rules rule unit = ltb rule (length rules) && is_unit_of (rule_numbered rules rule).scope unit

-- a rule of the profile, and a unit that it counts for
pub record RuleAndUnit (rules : List Rule) (rule unit : ℕ) : Type 0 where
  pub known : rule < length rules
  pub unit_known : is_unit_of (rule_numbered rules rule).scope unit ≡ true

-- where the accounts of a rule begin: after those of the rules before it
abbrev pub first_cell : List Rule → ℕ → ℕ
first_cell rules rule = length (cells_of (take rule rules))

-- where the account of a rule for a unit stands
unfoldable pub cell_at : List Rule → ℕ → ℕ → ℕ
cell_at rules rule unit = first_cell rules rule + place_in (rule_numbered rules rule).scope unit

-- the account at a place
unfoldable pub account_at : List Account → ℕ → Account
account_at accounts cell = get_or accounts cell no_account

-- the account that Remaining asks for
unfoldable pub account_for : Part → ℕ → ℕ → Account
account_for p rule unit = account_at p.accounts (cell_at p.profile.rules rule unit)

-- what remains of a rule's limit, 0 if more is counted
unfoldable pub left_of : State → ℕ → Account → ℕ
left_of s time a = ceiling a.rule.limit - counted s.log time a

-- how the roots stand
unfoldable pub standing : Locks → Standing
standing l = standing_of l.tripped l.by_user
