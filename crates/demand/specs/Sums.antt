-- The fills of any stretch of time between resets that zero stay within each limit, but for what came back from away markets; demand 3 asks it of each
-- rule as it counts for each of its units. Assumes nothing.
use Rattle.std.specs.Prelude.{ℕ, ◌+◌, ◌≤◌, ◌≡◌, Bool, true, not, cond, ◌&&◌, List, [], ◌∷◌, ◌++◌, leb, ltb}
use Rattle.rules.specs.Rules.{level_of, ceiling}
use Rattle.rules.specs.declared.Kind.{Kind}
use Rattle.rules.specs.declared.Kind.TheVariants.{Rate, Absolute}
use Rattle.rules.specs.declared.Rule.{Rule}
use Rattle.machine.specs.Deeds.{Deed}
use Rattle.demand.specs.History.{deed_time, amount_of, is_away, zeroes, NoneOf}

-- a time lies in the stretch of W successive milliseconds, W the rule's window, that begins at `start`; for an absolute rule every time does
unfoldable pub in_stretch : Kind → ℕ → ℕ → Bool
in_stretch (Rate window) start time = leb start time && ltb time (start + window)
in_stretch Absolute start time = true

-- what deeds of a sort filled in a stretch, in the measure that the rule counts in
unfoldable pub sum_by : (Deed → Bool) → Rule → ℕ → List Deed → ℕ
sum_by sort rule start [] = 0
sum_by sort rule start (deed ∷ earlier) =
    cond (sort deed && in_stretch rule.kind start (deed_time deed)) (amount_of rule deed) 0 + sum_by sort rule start earlier

-- all that was filled, grants and reports
abbrev pub sum_in : Rule → ℕ → List Deed → ℕ
sum_in rule start deeds = sum_by (λ deed. true) rule start deeds

-- what of it came back from away markets
abbrev pub away_in : Rule → ℕ → List Deed → ℕ
away_in rule start deeds = sum_by is_away rule start deeds

-- what of it the unit granted
abbrev pub granted_in : Rule → ℕ → List Deed → ℕ
granted_in rule start deeds = sum_by (λ deed. not (is_away deed)) rule start deeds

-- in every part of the history without a reset that zeroes the rule's level (one that only unlocks may stand in it), in every stretch, the fills stay
-- at or below the rule's limit and what came back from away markets in that stretch; so the grants alone stay at or below the limit, whatever came back
unfoldable pub Within : Rule → List Deed → Type 0
Within rule deeds =
    (later part earlier : List Deed) → deeds ≡ later ++ (part ++ earlier) → NoneOf (zeroes (level_of rule.scope)) part
    → (start : ℕ) → (sum_in rule start part ≤ ceiling rule.limit + away_in rule start part) × (granted_in rule start part ≤ ceiling rule.limit)
