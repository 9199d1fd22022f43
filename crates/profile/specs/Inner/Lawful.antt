-- What holds of every profile that was read: document 01's bounds on it, and how its roots are named and numbered. Assumes nothing.
use Rattle.std.specs.Prelude.{ℕ, ◌-◌, ◌≤◌, ◌<◌, ◌≡◌, true, List, [], length, get_or}
use Rattle.measures.specs.Ranges.{is_in, units}
use Rattle.rules.specs.declared.Scope.{Scope}
use Rattle.rules.specs.declared.Scope.TheVariants.{EveryFill, WholeRoot, OneUnit}
use Rattle.rules.specs.declared.Rule.{Rule}
use Rattle.text.specs.Text.{index_of, is_name, name_number}
use Rattle.laws.specs.Folds.{every}
use Rattle.rules.specs.Valid.{is_limit, is_kind, is_rule}
use Rattle.machine.specs.State.{Profile}
use Rattle.admission.specs.Admission.{are_in_order}

-- the number of a name of least to most capitals or digits
pub record IsNameNumber (least most n : ℕ) : Type 0 where
  pub name : List ℕ
  pub made : is_name least most name ≡ true
  pub number : name_number name ≡ n

-- a scope whose root is named, and whose unit is one of the four
unfoldable pub SaidScope : Scope → Type 0
SaidScope EveryFill = Unit
SaidScope (WholeRoot name) = IsNameNumber 1 6 name
SaidScope (OneUnit name unit) = IsNameNumber 1 6 name × (is_in units unit ≡ true)

-- a rule as a line gives it
pub record Said (rule : Rule) : Type 0 where
  pub limit : is_limit rule.limit ≡ true
  pub kind : is_kind rule.kind ≡ true
  pub scope : SaidScope rule.scope

-- at most 256 rules and 64 roots; every rule is one that a profile may hold; every root has a name of its own; and the rules number the roots in order of
-- first appearance, none of them one too many at its level
pub record Lawful (p : Profile) : Type 0 where
  pub rules-most : length p.rules ≤ 256
  pub roots-most : length p.roots ≤ 64
  pub each-rule : every (is_rule (length p.roots)) p.rules ≡ true
  pub each-name : (root : ℕ) → root < length p.roots → IsNameNumber 1 6 (get_or p.roots root 0)
  pub each-place : (root : ℕ) → root < length p.roots → index_of (get_or p.roots root 0) p.roots ≡ root
  pub in_order : are_in_order (length p.roots) [] 0 p.rules ≡ true

-- the newest of some names, where there is one, stands nowhere before its place
unfoldable pub NewestOnce : List ℕ → Type 0
NewestOnce names = 0 < length names → index_of (get_or names (length names - 1) 0) names ≡ length names - 1
