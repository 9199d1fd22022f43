-- A number of each of the log's entries, summed from the newest on. Assumes nothing.
use Prim.Native.Nat.{ℕ, ◌+◌, ◌*◌, ◌-◌, ◌≤◌, ◌<◌, zero-le}
use mathlib.Core.Path.{◌≡◌, ap}
use mathlib.Core.Bool.{Bool, true, false, cond}
use mathlib.Core.List.{List, []}
use native.Mathlib.Nat.{zero-add}
use native.Mathlib.Omega.{arith}
use lib.ListN.{drop}
use Rattle.laws.specs.Folds.{sum_of}
use Rattle.machine.specs.declared.Entry.{Entry}
use Rattle.packing.specs.EntryPlace.{entry_at}
use Rattle.daylog.specs.Inner.Log.{entries_of}
use Rattle.daylog.specs.Newest.{is_since, newest}
use Rattle.daylog.proofs.Newest.{read-on}

-- the sum over the places from i on, with that over what a reading still passes before place i, is the whole; each entry counts 10^14 at most
pub record Summed (f : Entry → ℕ) (first k : ℕ) (xs : List ℕ) (i sum : ℕ) : Type 0 where
  pub within : i ≤ k
  pub whole : sum + sum_of f (newest first (entries_of i xs)) ≡ sum_of f (newest first (entries_of k xs))
  pub small : sum ≤ (k - i) * 100_000_000_000_000

pub summed-none : (f : Entry → ℕ) (first k : ℕ) (xs : List ℕ) → Summed f first k xs k 0
summed-none f first k xs = record { within = omega arith; whole = zero-add (sum_of f (newest first (entries_of k xs))); small = zero-le }

-- one place more
pub summed-more : {f : Entry → ℕ} {first k : ℕ} {xs : List ℕ} {i sum n : ℕ} {e : Entry} → Summed f first k xs i sum → 0 < i
    → e ≡ entry_at (drop ((i - 1) * 2) xs) → is_since first e ≡ true → n ≡ f e → f e ≤ 100_000_000_000_000 → Summed f first k xs (i - 1) (sum + n)
unfolding sum_of
summed-more {f = f} {first = first} {xs = xs} {i = i} s some is inside number few =
    let on = ap (sum_of f) (read-on first xs i some is inside) in
    record { within = omega (arith, s.within); whole = omega (arith, s.whole, on); small = omega (arith, s.small, s.within) }

-- nothing is left to read
pub summed-done : {f : Entry → ℕ} {first k : ℕ} {xs : List ℕ} {i sum : ℕ} → Summed f first k xs i sum → newest first (entries_of i xs) ≡ []
    → sum ≡ sum_of f (newest first (entries_of k xs))
unfolding sum_of
summed-done {f = f} s none = omega (arith, s.whole, ap (sum_of f) none)

-- a number that is counted or not is at most what it is
pub picked-most : (b : Bool) (n most : ℕ) → n ≤ most → cond b n 0 ≤ most
picked-most true n most h = h
picked-most false n most h = zero-le
