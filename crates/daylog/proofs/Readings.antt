-- A reading from the newest entry on: one entry more, where it stops, and how many it passes. Assumes nothing.
use Prim.Native.Nat.{ℕ, ◌+◌, ◌*◌, ◌-◌, ◌≤◌, ◌<◌, zero-le}
use mathlib.Core.Path.{◌≡◌, refl, sym, ap, ◌∙◌}
use mathlib.Core.Bool.{Bool, true, false, cond}
use mathlib.Core.List.{List, [], ◌∷◌, reverse}
use native.Mathlib.Omega.{arith}
use lib.ListN.{length, get_or, length-reverse}
use borrow.Author.Tests.{le-leb}
use Rattle.laws.specs.Folds.{keep, sum_of}
use Rattle.machine.specs.declared.Entry.{Entry}
use Rattle.daylog.specs.Newest.{passed, is_since, newest, looked_at}
use Rattle.daylog.specs.Inner.Log.{HeldLog, entries_of}
use Rattle.daylog.specs.Inner.Reading.{PassesOn, OfFour}
use Rattle.daylog.proofs.Newest.{read-on, read-stop, read-less}
use Rattle.daylog.proofs.Sifting.{place-since, place-before}

-- no entry is before time 0: a reading passes all
all-passed : (es : List Entry) → passed (is_since 0) es ≡ es
unfolding passed
all-passed [] = refl
all-passed (e ∷ es) = rw (le-leb 0 e.time zero-le) (ap (λ (l : List Entry). e ∷ l) (all-passed es))

pub newest-all : (es : List Entry) → length (newest 0 es) ≡ length es
unfolding newest
newest-all es = ap length (all-passed (reverse es)) ∙ length-reverse es

pub passing-none : (first k : ℕ) (xs : List ℕ) → PassesOn first k xs 0
passing-none first k xs =
    let all : k - 0 ≡ k = omega arith in
    record { passes = rw all (omega arith); looks = rw all (omega arith) }

-- a reading came to the place before the n newest of k entries
module _ {first k n m : ℕ} {xs : List ℕ} (p : PassesOn first k xs n) (held : HeldLog m xs) (within : k ≤ m) (some : n < k) {at : ℕ} (is : at ≡ (k - n - 1) * 2) where
  -- it passes the next entry
  pub passing-more : first * 1024 ≤ get_or xs at 0 → PassesOn first k xs (n + 1)
  passing-more inside =
      let t = place-since first (k - n - 1) held (omega arith) (rw (sym is) inside) in
      let next : k - n - 1 ≡ k - (n + 1) = omega arith in
      let on = read-on first xs (k - n) (omega arith) refl t in
      let less = read-less first xs (k - n) (omega arith) refl t in
      record {
        passes = p.passes ∙ omega (arith, ap length on, ap (λ (i : ℕ). length (newest first (entries_of i xs))) next);
        looks = p.looks ∙ omega (arith, less, ap (λ (i : ℕ). looked_at first (entries_of i xs)) next);
      }

  -- or it stops there
  pub passing-stop : get_or xs at 0 < first * 1024 → length (newest first (entries_of k xs)) ≡ n
  passing-stop out =
      let t = place-before first (k - n - 1) held (omega arith) (rw (sym is) out) in
      p.passes ∙ omega (arith, ap length (read-stop first xs (k - n) (omega arith) refl t))

-- a reading that stops among four
pub stopped : {first k r : ℕ} {xs : List ℕ} → r < 4 → length (newest first (entries_of k xs)) ≡ r → OfFour first k xs r
stopped less is = record { most = omega arith; stops = λ _. is; goes = λ all. absurd (omega arith) }

-- so many are not before a time
pub keep-many : (first : ℕ) (es : List Entry) → length (keep (is_since first) es) ≡ sum_of (λ e. cond (is_since first e) 1 0) es
unfolding keep sum_of
keep-many first [] = refl
keep-many first (e ∷ es) = go (is_since first e) (keep-many first es)
  where
    go : (b : Bool) → length (keep (is_since first) es) ≡ sum_of (λ e. cond (is_since first e) 1 0) es
        → length (cond b (e ∷ keep (is_since first) es) (keep (is_since first) es)) ≡ cond b 1 0 + sum_of (λ e. cond (is_since first e) 1 0) es
    go true h = omega arith
    go false h = omega arith
