-- The state: what one firm has, and the log as that firm sees it. Assumes nothing.
use Rattle.std.specs.Prelude.{ℕ, ◌≡◌, Bool, false, List, [], ◌∷◌, ◌++◌, map, length}
use Rattle.rules.specs.Amounts.{amount_in}
use Rattle.rules.specs.Units.{units_of, of_unit}
use Rattle.rules.specs.declared.Rule.{Rule}
use Rattle.rules.specs.declared.Account.{Account}
use Rattle.machine.specs.declared.Entry.{Entry}
use Rattle.machine.specs.declared.Sent.{Sent}

-- the firm's name, the roots' names in order of first appearance, and the rules by line; a rule's scope has its root's number
pub record Profile : Type 0 where
  pub firm : ℕ
  pub roots : List ℕ
  pub rules : List Rule

-- the marks: the firm's trip and lockout by the user, and the words of tripped roots and of roots that the user locked out
pub record Locks : Type 0 where
  pub firm_tripped : Bool
  pub firm_by_user : Bool
  pub tripped : ℕ
  pub by_user : ℕ

-- a firm's part; the register has the orders sent away that are not closed, in the order of their sending
pub record Part : Type 0 where
  pub clock : ℕ
  pub profile : Profile
  pub accounts : List Account
  pub locks : Locks
  pub register : List Sent

-- what one firm sees
pub record State : Type 0 where
  pub part : Part
  pub log : List Entry

-- the accounts of a rule: one for each unit that it counts for
unfoldable pub cells_by : Rule → List Rule
cells_by rule = map (of_unit rule) (units_of rule.scope)

-- the accounts that a profile's rules have: those of each rule after those of the rules before it
unfoldable pub cells_of : List Rule → List Rule
cells_of [] = []
cells_of (rule ∷ rest) = cells_by rule ++ cells_of rest

-- the rules of a state
unfoldable pub rules_in : State → List Rule
rules_in s = s.part.profile.rules

-- how many roots a state has
unfoldable pub roots_in : State → ℕ
roots_in s = length s.part.profile.roots

abbrev pub account_rule : Account → Rule
account_rule a = a.rule

-- the accounts are those that the profile's rules have
unfoldable pub Fitting : Part → Type 0
Fitting p = map account_rule p.accounts ≡ cells_of p.profile.rules

unfoldable pub no_locks : Locks
no_locks = record { firm_tripped = false; firm_by_user = false; tripped = 0; by_user = 0 }

-- an account that has counted nothing
unfoldable pub fresh : Rule → Account
fresh rule = record { rule = rule; total = amount_in rule.limit 0 }

-- a unit that was just armed: the clock at 0, all else counted or locked at 0, and no order sent away
unfoldable pub armed : Profile → State
armed profile = record {
  part = record { clock = 0; profile = profile; accounts = map fresh (cells_of profile.rules); locks = no_locks; register = [] };
  log = [];
}
