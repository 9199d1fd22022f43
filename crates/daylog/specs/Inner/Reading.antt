-- A reading of the log from its newest end: how far it came, and how many entries it passes in all. Assumes nothing.
use Rattle.std.specs.Prelude.{ℕ, ◌+◌, ◌-◌, ◌≤◌, ◌<◌, ◌≡◌, List, length}
use Rattle.rules.specs.declared.Kind.TheVariants.{Rate}
use Rattle.machine.specs.declared.Entry.{Entry}
use Rattle.machine.specs.Entries.{recent}
use Rattle.daylog.specs.declared.Reading.{Reading}
use Rattle.daylog.specs.Newest.{newest, looked_at}
use Rattle.daylog.specs.Inner.Log.{entries_of}
use Rattle.daylog.specs.Inner.Sieve.{first_time}

-- of the first k entries in xs a reading passes the n newest, and goes on with those before them
pub record PassesOn (first k : ℕ) (xs : List ℕ) (n : ℕ) : Type 0 where
  pub passes : length (newest first (entries_of k xs)) ≡ n + length (newest first (entries_of (k - n) xs))
  pub looks : looked_at first (entries_of k xs) ≡ n + looked_at first (entries_of (k - n) xs)

-- of the first k entries in xs a reading passes r and stops, or it passes four and goes on
pub record OfFour (first k : ℕ) (xs : List ℕ) (r : ℕ) : Type 0 where
  pub most : r ≤ 4
  pub stops : r < 4 → length (newest first (entries_of k xs)) ≡ r
  pub goes : 4 ≤ r → PassesOn first k xs 4

-- the reading of a window at a time: the first time inside it, and how many of these entries are inside
unfoldable pub window_reading : ℕ → ℕ → List Entry → Reading
window_reading window time es = record { from = first_time (Rate window) time; passed = length (recent window time es) }
