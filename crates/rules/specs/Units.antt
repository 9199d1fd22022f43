-- Units: which of them a rule keeps a count for, and what each of its counts covers. Nothing here knows of a state. Assumes nothing.
use Rattle.std.specs.Prelude.{ℕ, Bool, List, [], ◌∷◌, eqb}
use Rattle.measures.specs.Ranges.{is_in, units}
use Rattle.rules.specs.declared.Scope.{Scope}
use Rattle.rules.specs.declared.Scope.TheVariants.{EveryFill, WholeRoot, OneUnit}
use Rattle.rules.specs.declared.Rule.{Rule}

-- the units that a rule counts for: a firm rule has one count for all units together, called 0; a rule of one unit counts for its own; a root rule
-- without unit fields counts for each of the four by itself
unfoldable pub units_of : Scope → List ℕ
units_of EveryFill = 0 ∷ []
units_of (WholeRoot root) = 0 ∷ 1 ∷ 2 ∷ 3 ∷ []
units_of (OneUnit root unit) = unit ∷ []

-- whether a rule counts for a unit
unfoldable pub is_unit_of : Scope → ℕ → Bool
is_unit_of EveryFill unit = eqb unit 0
is_unit_of (WholeRoot root) unit = is_in units unit
is_unit_of (OneUnit root own) unit = eqb unit own

-- where a unit stands among those that a rule counts for
unfoldable pub place_in : Scope → ℕ → ℕ
place_in EveryFill unit = 0
place_in (WholeRoot root) unit = unit
place_in (OneUnit root own) unit = 0

-- what the count for a unit covers: where a rule counts for several, the fills of that unit alone
unfoldable pub scope_for : Scope → ℕ → Scope
scope_for EveryFill unit = EveryFill
scope_for (WholeRoot root) unit = OneUnit root unit
scope_for (OneUnit root own) unit = OneUnit root own

-- a rule as it counts for a unit: its kind and its limit are the rule's own
unfoldable pub of_unit : Rule → ℕ → Rule
of_unit rule unit = record { scope = scope_for rule.scope unit; kind = rule.kind; limit = rule.limit }
