-- The four numbers of the locks. Assumes nothing.
use Rattle.std.specs.Prelude.{ℕ, ◌≡◌, Bool, List, length}
use Rattle.rules.specs.declared.Level.{Level}
use Rattle.rules.specs.declared.Level.TheVariants.{Firm, Root}
use Rattle.machine.specs.State.{Locks}
use Rattle.state.specs.State.{locks_shape, locks_numbers}

-- the locks that they stand for
unfoldable pub locks_in : List ℕ → Locks
locks_in xs = locks_shape.read xs

-- four numbers that are just those of the locks that they stand for
pub record AreLocks (xs : List ℕ) : Type 0 where
  pub long : length xs ≡ 4
  pub are : xs ≡ locks_numbers (locks_in xs)

-- the levels that trip, by whether a root does and whether the firm does
unfoldable pub tripping : Bool → Bool → Level → Bool
tripping roottrips firmtrips Firm = firmtrips
tripping roottrips firmtrips (Root root) = roottrips
