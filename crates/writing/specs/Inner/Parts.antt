-- What the functions are lent and write: the profile that stands in two tables, and a line's end. Assumes nothing.
use Rattle.std.specs.Prelude.{ℕ, ◌≤◌, ◌≡◌, true, List, [], ◌∷◌, length, get_or, take, drop}
use Rattle.laws.specs.Folds.{every}
use Rattle.rules.specs.declared.Scope.{Scope}
use Rattle.rules.specs.declared.Kind.{Kind}
use Rattle.rules.specs.Valid.{is_scope, is_rule}
use Rattle.tables.specs.Inner.Tables.{places}
use Rattle.packing.specs.RulePlace.{rule_at}
use Rattle.machine.specs.State.{Profile}
use Rattle.given.specs.Parts.{rules_of}
use Rattle.writing.specs.Writing.{window_text, level_text, call_put_text, month_text, trimmed, with_commas}

-- the names in the roots' table, which has their number in front
abbrev pub names_of : List ℕ → List ℕ
names_of roots = take (get_or roots 0 0) (take 64 (drop 1 roots))

-- a whole table of roots that has the root of a scope, if it names one
pub record KnownScope (roots : List ℕ) (scope : Scope) : Type 0 where
  pub long : length roots ≡ 65
  pub known : is_scope (length (names_of roots)) scope ≡ true

-- the places of the rules' table, of which the first k hold rules that a profile with these roots may hold
pub record RulesPlaced (roots rules : List ℕ) (k : ℕ) : Type 0 where
  pub roots-long : length roots ≡ 65
  pub rules-long : length rules ≡ 512
  pub few : k ≤ 256
  pub valid : every (is_rule (length (names_of roots))) (places 2 rule_at k rules) ≡ true

-- the tables of roots and rules, whole, each with its number in front, whose rules a profile with these roots may hold
pub record Lent (roots rules : List ℕ) : Type 0 where
  pub roots-long : length roots ≡ 65
  pub rules-long : length rules ≡ 513
  pub few : get_or rules 0 0 ≤ 256
  pub valid : every (is_rule (length (names_of roots))) (rules_of rules) ≡ true

-- a firm's profile in these tables
unfoldable pub profile_in : ℕ → List ℕ → List ℕ → Profile
profile_in firm roots rules = record { firm = firm; roots = names_of roots; rules = rules_of rules }

-- a comma and the fields after it, nothing where no field is left
unfoldable pub after_comma : List (List ℕ) → List ℕ
after_comma [] = []
after_comma (f ∷ rest) = 44 ∷ with_commas (f ∷ rest)

-- what a line has after its time limit: firm level, call/put and month
unfoldable pub letters_text : Scope → List ℕ
letters_text scope = after_comma (trimmed (level_text scope ∷ call_put_text scope ∷ month_text scope ∷ []))

-- what a line has after its limit value: the time limit and these
unfoldable pub end_text : Kind → Scope → List ℕ
end_text kind scope = after_comma (trimmed (window_text kind ∷ level_text scope ∷ call_put_text scope ∷ month_text scope ∷ []))
