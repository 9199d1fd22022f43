-- Which rules a profile may hold, and which totals they may have. Assumes nothing.
use Rattle.std.specs.Prelude.{ℕ, Bool, true, false, cond, ◌&&◌, ◌||◌, List, [], ◌∷◌, ltb, eqb}
use Rattle.measures.specs.Ranges.{Range, ◌to◌, is_in, units, dollar_limits, number_limits, totals}
use Rattle.rules.specs.declared.Scope.{Scope}
use Rattle.rules.specs.declared.Scope.TheVariants.{EveryFill, WholeRoot, OneUnit}
use Rattle.rules.specs.declared.Kind.{Kind}
use Rattle.rules.specs.declared.Kind.TheVariants.{Rate, Absolute}
use Rattle.rules.specs.declared.Limit.{Limit}
use Rattle.rules.specs.declared.Limit.TheVariants.{Notional, Volume, Count}
use Rattle.rules.specs.declared.Rule.{Rule}
use Rattle.rules.specs.declared.Amount.{Amount}
use Rattle.rules.specs.Amounts.{number_of, is_of}
use Rattle.rules.specs.Rules.{is_rate}

-- the windows of rate rules, in milliseconds
abbrev pub windows : Range
windows = 100 to 86_400_000

-- a limit in the range of its measure
unfoldable pub is_limit : Limit → Bool
is_limit (Notional l) = is_in dollar_limits l.0
is_limit (Volume l) = is_in number_limits l.0
is_limit (Count l) = is_in number_limits l.0

-- a rate rule's window in its range
unfoldable pub is_kind : Kind → Bool
is_kind (Rate w) = is_in windows w
is_kind Absolute = true

-- a root that is known, of so many, and a unit
unfoldable pub is_scope : ℕ → Scope → Bool
is_scope roots EveryFill = true
is_scope roots (WholeRoot r) = ltb r roots
is_scope roots (OneUnit r u) = ltb r roots && is_in units u

-- a rule that a profile with so many roots may hold
unfoldable pub is_rule : ℕ → Rule → Bool
is_rule roots rule = is_limit rule.limit && is_kind rule.kind && is_scope roots rule.scope

-- whether one of these rules is a rate rule
unfoldable pub has_rate : List Rule → Bool
has_rate [] = false
has_rate (rule ∷ rest) = is_rate rule.kind || has_rate rest

-- what an absolute rule may have counted is at most 10^18; a rate rule has no total, so it stays 0
unfoldable pub is_total_number : Rule → ℕ → Bool
is_total_number rule n = cond (is_rate rule.kind) (eqb n 0) (is_in totals n)

-- a total that a rule may have, in the rule's own measure
unfoldable pub is_total : Rule → Amount → Bool
is_total rule total = is_of rule.limit total && is_total_number rule (number_of total)
