-- A rule in two numbers. Assumes nothing.
use Rattle.std.specs.Prelude.{ℕ, Bool, cond, ◌&&◌, List, [], ◌∷◌, ◌==◌, slice_index}
use Rattle.bits.specs.Fields.{packed, unpacked}
use Rattle.rules.specs.Valid.{is_limit, is_kind, is_scope, is_rule}
use Rattle.rules.specs.declared.Scope.{Scope}
use Rattle.rules.specs.declared.Scope.TheVariants.{EveryFill, WholeRoot, OneUnit}
use Rattle.rules.specs.declared.Kind.{Kind}
use Rattle.rules.specs.declared.Kind.TheVariants.{Rate, Absolute}
use Rattle.rules.specs.declared.Limit.{Limit}
use Rattle.rules.specs.declared.Limit.TheVariants.{Notional, Volume, Count}
use Rattle.rules.specs.declared.Rule.{Rule}
use Rattle.tables.specs.declared.Place.{Place}
use Rattle.shapes.specs.Shape.{Shape, coded, table as counted}
use Rattle.tables.specs.Inner.Tables.{table_numbers, is_place, place_of}

-- the limit's number
abbrev pub limit_number : Limit → ℕ
limit_number (Notional l) = l.0
limit_number (Volume l) = l.0
limit_number (Count l) = l.0

-- the measure: 0 notional, 1 volume, 2 count
abbrev pub measure_number : Limit → ℕ
measure_number (Notional l) = 0
measure_number (Volume l) = 1
measure_number (Count l) = 2

-- the window: 0 for an absolute rule
abbrev pub window_number : Kind → ℕ
window_number (Rate w) = w
window_number Absolute = 0

-- the kind: 0 rate, 1 absolute
abbrev pub kind_number : Kind → ℕ
kind_number (Rate w) = 0
kind_number Absolute = 1

-- the scope: 0 every fill, 1 a whole root, 2 one unit
abbrev pub scope_number : Scope → ℕ
scope_number EveryFill = 0
scope_number (WholeRoot r) = 1
scope_number (OneUnit r u) = 2

-- the root, 0 where there is none
abbrev pub root_number : Scope → ℕ
root_number EveryFill = 0
root_number (WholeRoot r) = r
root_number (OneUnit r u) = r

-- the unit, 0 where there is none
abbrev pub unit_number : Scope → ℕ
unit_number EveryFill = 0
unit_number (WholeRoot r) = 0
unit_number (OneUnit r u) = u

-- the widths of the first number's fields: limit, window
abbrev pub limit_widths : List ℕ
limit_widths = 37 ∷ 27 ∷ []

-- and of the second's: spare, measure, kind, scope, root, unit
abbrev pub scope_widths : List ℕ
scope_widths = 51 ∷ 2 ∷ 1 ∷ 2 ∷ 6 ∷ 2 ∷ []

-- the values of these fields
unfoldable pub limit_values : Rule → List ℕ
limit_values rule = limit_number rule.limit ∷ window_number rule.kind ∷ []

unfoldable pub scope_values : Rule → List ℕ
scope_values rule =
    0 ∷ measure_number rule.limit ∷ kind_number rule.kind ∷ scope_number rule.scope ∷ root_number rule.scope ∷ unit_number rule.scope ∷ []

-- the two numbers of a rule
unfoldable pub rule_numbers : Rule → List ℕ
rule_numbers rule = packed limit_widths (limit_values rule) ∷ packed scope_widths (scope_values rule) ∷ []

-- the limit of a measure, by the measure's number
unfoldable pub limit_from : ℕ → ℕ → Limit
limit_from measure n = cond (measure == 0) (Notional (record { 0 = n })) (cond (measure == 1) (Volume (record { 0 = n })) (Count (record { 0 = n })))

-- the kind, by its number and the window
unfoldable pub kind_from : ℕ → ℕ → Kind
kind_from kind window = cond (kind == 0) (Rate window) Absolute

-- the scope, by its number, the root and the unit
unfoldable pub scope_from : ℕ → ℕ → ℕ → Scope
scope_from scope root unit = cond (scope == 0) EveryFill (cond (scope == 1) (WholeRoot root) (OneUnit root unit))

-- the rule that the values of the fields stand for
unfoldable pub rule_from : List ℕ → List ℕ → Rule
rule_from v w = record {
  scope = scope_from (slice_index w 3) (slice_index w 4) (slice_index w 5);
  kind = kind_from (slice_index w 2) (slice_index v 1);
  limit = limit_from (slice_index w 1) (slice_index v 0);
}

-- the rule that the first two numbers stand for
unfoldable pub rule_at : List ℕ → Rule
rule_at xs = rule_from (unpacked limit_widths (slice_index xs 0)) (unpacked scope_widths (slice_index xs 1))

-- a measure and a number are just those of a limit in its range
unfoldable pub is_limit_place : ℕ → ℕ → Bool
is_limit_place measure n =
    let limit = limit_from measure n in
    (measure == measure_number limit) && n == limit_number limit && is_limit limit

-- a kind and a window are just those of a kind with its window in range
unfoldable pub is_kind_place : ℕ → ℕ → Bool
is_kind_place n window =
    let kind = kind_from n window in
    (n == kind_number kind) && window == window_number kind && is_kind kind

-- a scope, a root and a unit are just those of a scope with a root that is known
unfoldable pub is_scope_place : ℕ → ℕ → ℕ → ℕ → Bool
is_scope_place roots n root unit =
    let scope = scope_from n root unit in
    (n == scope_number scope) && root == root_number scope && unit == unit_number scope && is_scope roots scope

-- the first two numbers are just those of a rule that a profile with so many roots may hold
abbrev pub is_rule_place : ℕ → List ℕ → Bool
is_rule_place roots xs = is_place 2 (is_rule roots) rule_at rule_numbers xs

-- the two numbers of a rule, 0 and 0 for one that no profile may hold
abbrev pub rule_place : Rule → Place
rule_place rule = place_of (is_rule 64) rule_numbers rule

-- the rules in their 256 places
abbrev pub rules_table : List Rule → List ℕ
rules_table rules = table_numbers 2 256 rule_numbers rules

-- a rule of a profile with so many roots, in its two numbers
unfoldable pub rule_shape : ℕ → Shape 2 Rule
rule_shape roots = coded 2 (is_rule roots) rule_at rule_numbers

-- the rules' table: how many there are, and their places
unfoldable pub rules_shape : ℕ → Shape 513 (List Rule)
rules_shape roots = counted 256 (rule_shape roots)
