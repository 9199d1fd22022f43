-- The test of the log, one place more. Assumes nothing.
use Prim.Native.Nat.{ℕ, ◌+◌, ◌*◌, ◌-◌, ◌%◌, ◌≤◌, ◌<◌, zero-le}
use native.Mathlib.Nat.{sub-zero, zero-mul, le_trans}
use native.Mathlib.Omega.{arith}
use mathlib.Core.Path.{◌≡◌, refl, sym, ◌∙◌}
use mathlib.Core.Bool.{Bool, true, false, ◌&&◌, and-true, and-false, false≢true}
use mathlib.Core.List.{List}
use lib.ListN.{drop}
use lib.Dec.{leb}
use borrow.Author.Tests.{leb-true, le-leb}
use Rattle.laws.proofs.Tests.{and_l, and_r, and_i, same_test, tests}
use Rattle.measures.specs.Ranges.{is_in, times}
use Rattle.tables.specs.Inner.Tables.{all_zero, places, places_pass}
use Rattle.packing.specs.EntryPlace.{entry_at}
use Rattle.tables.proofs.Passing.{pass_on, places-on}
use Rattle.daylog.specs.Inner.Log.{is_log_place, entries_hold}
use Rattle.machine.specs.Entries.{are_ordered}

-- the places from i on hold entries in order, none earlier than `from`
unfoldable pub left_holds : ℕ → ℕ → ℕ → List ℕ → ℕ → ℕ → Bool
left_holds n clock k xs from i =
    places_pass 2 (is_log_place n) (k - i) (drop (i * 2) xs) && are_ordered from clock (places 2 entry_at (k - i) (drop (i * 2) xs))

-- the same, and `from` itself is in range and not later than the clock
abbrev pub from_holds : ℕ → ℕ → ℕ → List ℕ → ℕ → ℕ → Bool
from_holds n clock k xs from i = leb from 86_399_999 && leb from clock && left_holds n clock k xs from i

on : (f p a o : Bool) → (a ≡ true → f ≡ true) → (f && (p && (a && o))) ≡ (a && (p && o))
on f p true o h = rw (h refl)
on true true false o h = refl
on true false false o h = refl
on false p false o h = refl

none : (a b : Bool) → (a && b && false) ≡ false
none true true = refl
none true false = refl
none false b = refl

module _ (n clock k : ℕ) (xs : List ℕ) (from i time : ℕ) (rest : Bool) (is : (entry_at (drop (i * 2) xs)).time ≡ time % 134_217_728)
    (test : is_log_place n (drop (i * 2) xs) ≡ (is_in times time && rest)) (more : i < k) where
  -- the places after this one hold entries, in order from a time on
  abbrev passed : Bool
  passed = places_pass 2 (is_log_place n) (k - (i + 1)) (drop ((i + 1) * 2) xs)

  abbrev ordered : ℕ → Bool
  ordered t = are_ordered t clock (places 2 entry_at (k - (i + 1)) (drop ((i + 1) * 2) xs))

  next : left_holds n clock k xs from i
      ≡ (is_in times time && rest && passed
      && (leb from (time % 134_217_728) && leb (time % 134_217_728) clock && ordered (time % 134_217_728)))
  unfolding left_holds are_ordered
  next = rw (pass_on 2 k i xs more, places-on 2 k i xs more entry_at, is, test)

  then : left_holds n clock k xs time (i + 1) ≡ (passed && ordered time)
  unfolding left_holds
  then = refl

  -- a time in range is what its entry tells
  kept : time ≤ 86_399_999 → time % 134_217_728 ≡ time
  kept low = omega arith

  pub left-on : (rest && leb from time) ≡ true → from_holds n clock k xs from i ≡ from_holds n clock k xs time (i + 1)
  left-on h = go (leb time 86_399_999) refl
    where
      after : from ≤ time
      after = leb-true from time (and_r rest (leb from time) h)

      go : (b : Bool) → leb time 86_399_999 ≡ b → from_holds n clock k xs from i ≡ from_holds n clock k xs time (i + 1)
      go true e =
          let low = leb-true time 86_399_999 e in
          rw (
            next,
            then,
            e,
            le-leb 0 time zero-le,
            and_l rest (leb from time) h,
            kept low,
            le-leb from time after,
            le-leb from 86_399_999 (le_trans after low),
          )
          (on (leb from clock) passed (leb time clock) (ordered time) (λ l. le-leb from clock (le_trans after (leb-true time clock l))))
      go false e = rw (next, e, le-leb 0 time zero-le) (none (leb from 86_399_999) (leb from clock))

  pub left-off : (rest && leb from time) ≡ false → from_holds n clock k xs from i ≡ false
  left-off h = same_test _ false there (λ e. absurd (false≢true e))
    where
      there : from_holds n clock k xs from i ≡ true → false ≡ true
      there e =
          let l = rw next at (and_r (leb from 86_399_999 && leb from clock) (left_holds n clock k xs from i) e) in
          let low : time ≤ 86_399_999 = search tests depth 14 in
          let valid : rest ≡ true = search (and_l, and_r) depth 14 in
          let after : leb from (time % 134_217_728) ≡ true = search (and_l, and_r) depth 14 in
          sym h ∙ and_i valid (rw (kept low) at after)

  -- both in one: what was good so far, with this place
  pub left_step : (good : Bool) → (good && from_holds n clock k xs from i) ≡ ((good && (rest && leb from time)) && from_holds n clock k xs time (i + 1))
  left_step good = go (rest && leb from time) refl
    where
      go : (b : Bool) → (rest && leb from time) ≡ b → (good && from_holds n clock k xs from i) ≡ ((good && (rest && leb from time)) && from_holds n clock k xs time (i + 1))
      go true e = rw (left-on e, e, and-true)
      go false e = rw (left-off e, e, and-false)

pub left-start : (n clock k : ℕ) (xs : List ℕ) → left_holds n clock k xs 0 0 ≡ from_holds n clock k xs 0 0
left-start n clock k xs = rw (le-leb 0 clock zero-le)

pub left_end : (n clock k : ℕ) (xs : List ℕ) (from i : ℕ) → k ≤ i → from_holds n clock k xs from i ≡ (leb from 86_399_999 && leb from clock)
unfolding left_holds places_pass places are_ordered
left_end n clock k xs from i h = let z : k - i ≡ 0 = omega arith in rw z (and-true (leb from 86_399_999 && leb from clock))

-- the whole test, from what is left at the start
pub holds-is : (n clock k : ℕ) (xs : List ℕ) → entries_hold n clock k xs ≡ (left_holds n clock k xs 0 0 && all_zero (drop (k * 2) xs))
unfolding entries_hold left_holds
holds-is n clock k xs = rw (sub-zero k, zero-mul 2)
