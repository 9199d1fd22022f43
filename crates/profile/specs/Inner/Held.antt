-- What stands in the reader's tally and arrays while a text is read. Assumes nothing.
use Rattle.std.specs.Prelude.{ℕ, ◌≡◌, true, false, List, length, Option}
use Rattle.rules.specs.declared.Rule.{Rule}
use Rattle.packing.specs.RulePlace.{rules_table}
use Rattle.admission.specs.Inner.Counting.{SoFar}
use Rattle.admission.specs.declared.Tally.{Tally}
use Rattle.std.specs.declared.option.Option.TheVariants.{None, Some}
use Rattle.machine.specs.State.{Profile}
use Rattle.profile.specs.Profile.{joined, too_many, Outcome, reading_of, roots_table}
use Rattle.profile.specs.Inner.Lawful.{Lawful}
use Rattle.profile.specs.Reading.{Reading}

-- the roots and the rules of a profile stand in their places
pub record Stored (p : Profile) (roots rules : List ℕ) : Type 0 where
  pub roots-in : roots ≡ roots_table p.roots
  pub rules-in : rules ≡ rules_table p.rules

-- a profile that was read so far: where its roots and rules stand, how many there are, and how many rules at each level
pub record Held (p : Profile) (tally : Tally) (roots rules counts : List ℕ) : Type 0 where
  pub lawful : Lawful p
  pub stored : Stored p roots rules
  pub roots-are : tally.seen ≡ length p.roots
  pub so_far : SoFar p.rules tally counts

-- some profile is held
abbrev pub HoldsSome : Tally → List ℕ → List ℕ → List ℕ → Type 0
HoldsSome tally roots rules counts = (p : Profile) × Held p tally roots rules counts

-- what became of a rule after a profile: it joined, or it is one too many and nothing of it is stored
unfoldable pub Joins : Profile → Rule → Option Tally → List ℕ → List ℕ → List ℕ → Type 0
Joins p rule (Some tally) roots rules counts = (too_many p rule ≡ false) × Held (joined p rule) tally roots rules counts
Joins p rule None roots rules counts = (too_many p rule ≡ true) × Stored p roots rules

-- a reading is that of an outcome, whose roots and rules stand in their places
pub record ReadingTold (o : Outcome) (reading : Reading) (roots rules : List ℕ) : Type 0 where
  pub reading-is : reading ≡ reading_of o
  pub stored : Stored o.profile roots rules
