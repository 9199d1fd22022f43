-- What counts for a rule, when a rule trips, and when a level is locked, by what was done before. Assumes nothing.
use Rattle.std.specs.Prelude.{ℕ, ◌+◌, ◌≡◌, Bool, true, false, cond, ◌&&◌, ◌||◌, List, [], ◌∷◌, ◌++◌}
use Rattle.laws.specs.Folds.{any_of}
use Rattle.rules.specs.Rules.{level_of, counts}
use Rattle.rules.specs.Units.{of_unit}
use Rattle.rules.specs.declared.Level.{Level}
use Rattle.rules.specs.declared.Rule.{Rule}
use Rattle.machine.specs.Deeds.{Deed, nothing, passing, filling, resetting, locking_out, sending, closing}
use Rattle.machine.specs.Offers.{covers_offer, same_level, trips_by}
use Rattle.demand.specs.History.{deed_time, amount_of, zeroes, lifts, NoneOf}

-- what counts for a rule at a time: what was filled since the last reset that zeroed its level, and is still inside its window; of a rule that
-- counts for several units `of_unit` says for which
unfoldable pub counted_in : Rule → List Deed → ℕ → ℕ
counted_in rule [] time = 0
counted_in rule (deed ∷ earlier) time =
    cond (zeroes (level_of rule.scope) deed) 0
    (cond (counts rule.kind (deed_time deed) time) (amount_of rule deed) 0 + counted_in rule earlier time)

-- a rule trips on a deed, judged from what was done before it on the unit of the fill
unfoldable pub trips_on : Rule → Deed → List Deed → Bool
trips_on rule nothing earlier = false
trips_on rule (passing time) earlier = false
trips_on rule (filling source o n) earlier =
    covers_offer o rule && trips_by source o n rule (counted_in (of_unit rule o.unit) earlier o.time)
trips_on rule (resetting time root effect) earlier = false
trips_on rule (locking_out time level) earlier = false
trips_on rule (sending time sent) earlier = false
trips_on rule (closing time identity) earlier = false

-- a deed is a lockout of a level
unfoldable pub locks_out : Level → Deed → Bool
locks_out level nothing = false
locks_out level (passing time) = false
locks_out level (filling source o n) = false
locks_out level (resetting time root effect) = false
locks_out level (locking_out time other) = same_level other level
locks_out level (sending time sent) = false
locks_out level (closing time identity) = false

-- one of a level's rules trips on a deed: on whichever unit that is, it is the whole level that is locked
unfoldable pub rule_trips : List Rule → Level → Deed → List Deed → Bool
rule_trips rules level deed earlier = any_of (λ rule. same_level (level_of rule.scope) level && trips_on rule deed earlier) rules

-- a deed locks a level: one of the level's rules trips on it, or it is a lockout of the level
unfoldable pub locks : List Rule → Level → Deed → List Deed → Bool
locks rules level deed earlier = rule_trips rules level deed earlier || locks_out level deed

-- some deed set a mark, and none since has lifted it
unfoldable pub Since : (Deed → Bool) → (Deed → List Deed → Bool) → List Deed → Type 0
Since lift sets deeds =
    (later : List Deed) × (deed : Deed) × (earlier : List Deed) × (deeds ≡ later ++ (deed ∷ earlier)) × NoneOf lift later
    × (sets deed earlier ≡ true)

-- a level is locked: some deed locked it, and no reset since, whether it zeroes or only unlocks, has lifted that
abbrev pub LockedBy : List Rule → Level → List Deed → Type 0
LockedBy rules level deeds = Since (lifts level) (locks rules level) deeds
