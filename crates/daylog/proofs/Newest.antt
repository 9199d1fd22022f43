-- The log read from its newest end: in order of time a reading passes all that are not before a time, and looks at one more at most. Assumes nothing.
use Prim.Native.Nat.{ℕ, zero, suc, ◌+◌, ◌*◌, ◌-◌, ◌≤◌, ◌<◌, zero-le}
use mathlib.Core.Path.{◌≡◌, refl, sym, ap, ◌∙◌}
use mathlib.Core.Bool.{Bool, true, false, cond, ◌&&◌}
use mathlib.Core.List.{List, [], ◌∷◌, ◌++◌, reverse, reverse_aux, reverse-cons, reverse-append, reverse-reverse}
use native.Mathlib.Omega.{arith}
use lib.ListN.{length, drop, length-append, length-reverse}
use lib.Seq.{drop-drop, drop_at}
use lib.Dec.{leb}
use borrow.Author.Tests.{leb-true, le-leb}
use Rattle.laws.proofs.Tests.{and_l, and_r}
use Rattle.laws.specs.Folds.{keep, sum_of}
use Rattle.tables.specs.Inner.Tables.{places}
use Rattle.packing.specs.EntryPlace.{entry_at}
use Rattle.machine.specs.declared.Entry.{Entry}
use Rattle.machine.specs.Entries.{are_ordered}
use Rattle.daylog.specs.Inner.Log.{entries_of}
use Rattle.daylog.specs.Newest.{passed, looked, is_since, newest, looked_at}

module _ {A : Type 0} (test : A → Bool) where
  -- one more at the end: behind all that pass, and where it fails itself
  passed_on : (xs ys : List A) → passed test xs ≡ xs → passed test (xs ++ ys) ≡ xs ++ passed test ys
  unfolding passed
  passed_on [] ys h = refl
  passed_on (x ∷ xs) ys h = go (test x) h (λ k. passed_on xs ys k)
    where
      go : (b : Bool) → cond b (x ∷ passed test xs) [] ≡ x ∷ xs → (passed test xs ≡ xs → passed test (xs ++ ys) ≡ xs ++ passed test ys)
          → cond b (x ∷ passed test (xs ++ ys)) [] ≡ x ∷ (xs ++ passed test ys)
      go true h on = ap (λ (l : List A). x ∷ l) (on (cc))
      go false h on = cc

  passed-off : (xs : List A) (x : A) → test x ≡ false → passed test (xs ++ (x ∷ [])) ≡ passed test xs
  unfolding passed
  passed-off [] x f = rw f
  passed-off (y ∷ xs) x f = rw (passed-off xs x f)

  -- what is passed stands in front
  passed-front : (xs : List A) → passed test xs ++ drop (length (passed test xs)) xs ≡ xs
  unfolding passed
  passed-front [] = refl
  passed-front (x ∷ xs) = go (test x) (passed-front xs)
    where
      go : (b : Bool) → passed test xs ++ drop (length (passed test xs)) xs ≡ xs
          → cond b (x ∷ passed test xs) [] ++ drop (length (cond b (x ∷ passed test xs) [])) (x ∷ xs) ≡ x ∷ xs
      go true h = ap (λ (l : List A). x ∷ l) h
      go false h = refl

  -- no more is looked at than what is passed, and one
  looked-few : (xs : List A) → looked test xs ≤ length (passed test xs) + 1
  unfolding looked passed
  looked-few [] = zero-le
  looked-few (x ∷ xs) = go (test x) (looked-few xs)
    where
      go : (b : Bool) → looked test xs ≤ length (passed test xs) + 1 → cond b (looked test xs + 1) 1 ≤ length (cond b (x ∷ passed test xs) []) + 1
      go true h = omega arith
      go false h = omega arith

  -- those that pass a test, turned round, count what all count where the others count nothing
  sum-turned : (f : A → ℕ) → ((x : A) → test x ≡ false → f x ≡ 0) → (xs ys : List A) → sum_of f (reverse_aux (keep test xs) ys) ≡ sum_of f xs + sum_of f ys
  unfolding sum_of keep
  sum-turned f none [] ys = omega arith
  sum-turned f none (x ∷ xs) ys = go (test x) refl (sum-turned f none xs (x ∷ ys)) (sum-turned f none xs ys)
    where
      go : (b : Bool) → test x ≡ b → sum_of f (reverse_aux (keep test xs) (x ∷ ys)) ≡ sum_of f xs + (f x + sum_of f ys)
          → sum_of f (reverse_aux (keep test xs) ys) ≡ sum_of f xs + sum_of f ys
          → sum_of f (reverse_aux (cond b (x ∷ keep test xs) (keep test xs)) ys) ≡ (f x + sum_of f xs) + sum_of f ys
      go true t with_it without = omega arith
      go false t with_it without = omega (arith, none x t)

-- in order of time all are not before a time where the first is not
none_before : (first from clock : ℕ) (es : List Entry) → first ≤ from → are_ordered from clock es ≡ true → keep (is_since first) es ≡ es
unfolding keep are_ordered
none_before first from clock [] l o = refl
none_before first from clock (e ∷ es) l o =
    let both = and_l (leb from e.time && leb e.time clock) (are_ordered e.time clock es) o in
    let later = leb-true from e.time (and_l (leb from e.time) (leb e.time clock) both) in
    let here : first ≤ e.time = omega arith in
    rw (le-leb first e.time here)
    (ap (λ (l : List Entry). e ∷ l) (none_before first e.time clock es here (and_r (leb from e.time && leb e.time clock) (are_ordered e.time clock es) o)))

-- in order of time what stands before the first entry outside is outside too: a reading that stops there passes all that are inside
pub older-outside : (first from clock : ℕ) (es : List Entry) → are_ordered from clock es ≡ true → newest first es ≡ reverse (keep (is_since first) es)
unfolding newest passed keep are_ordered
older-outside first from clock [] o = refl
older-outside first from clock (e ∷ es) o =
    let rest = and_r (leb from e.time && leb e.time clock) (are_ordered e.time clock es) o in
    ap (passed (is_since first)) (reverse-cons e es) ∙ go (is_since first e) refl rest (older-outside first e.time clock es rest)
  where
    go : (b : Bool) → is_since first e ≡ b → are_ordered e.time clock es ≡ true → passed (is_since first) (reverse es) ≡ reverse (keep (is_since first) es)
        → passed (is_since first) (reverse es ++ (e ∷ [])) ≡ reverse (cond b (e ∷ keep (is_since first) es) (keep (is_since first) es))
    go true t rest h =
        let all = none_before first e.time clock es (leb-true first e.time t) rest in
        passed_on (is_since first) (reverse es) (e ∷ []) (h ∙ ap reverse all)
        ∙ rw (all, t) (sym (reverse-cons e es))
    go false t rest h = passed-off (is_since first) (reverse es) e t ∙ h

-- it passes no more than there are
pub newest-most : (first : ℕ) (es : List Entry) → length (newest first es) ≤ length es
unfolding newest
newest-most first es =
    let read = passed (is_since first) (reverse es) in
    omega (arith, length-reverse es, ap length (passed-front (is_since first) (reverse es)), length-append read (drop (length read) (reverse es)))

-- what a reading passes stands last
pub newest-last : (first : ℕ) (es : List Entry) → reverse (newest first es) ≡ drop (length es - length (newest first es)) es
unfolding newest
newest-last first es =
    let read = passed (is_since first) (reverse es) in
    let rest = drop (length read) (reverse es) in
    let whole : read ++ rest ≡ reverse es = passed-front (is_since first) (reverse es) in
    let turned : es ≡ reverse rest ++ reverse read = sym (reverse-reverse es) ∙ ap reverse (sym whole) ∙ reverse-append read rest in
    let many : length (reverse rest) ≡ length es - length read = omega (arith, length-reverse rest, length-reverse es, ap length whole, length-append read rest) in
    sym (ap (drop (length es - length read)) turned ∙ drop_at (reverse rest) (reverse read) (length es - length read) many)

module _ (first from clock : ℕ) (es : List Entry) (ordered : are_ordered from clock es ≡ true) where
  -- so many are not before the time
  pub newest-many : length (newest first es) ≡ length (keep (is_since first) es)
  newest-many = ap length (older-outside first from clock es ordered) ∙ length-reverse (keep (is_since first) es)

  -- and these are the last ones
  pub newest-kept : keep (is_since first) es ≡ drop (length es - length (newest first es)) es
  newest-kept = sym (reverse-reverse (keep (is_since first) es)) ∙ ap reverse (sym (older-outside first from clock es ordered)) ∙ newest-last first es

  -- they count what all count, where one before the time counts nothing
  pub newest-sum : (f : Entry → ℕ) → ((e : Entry) → is_since first e ≡ false → f e ≡ 0) → sum_of f (newest first es) ≡ sum_of f es
  unfolding sum_of
  newest-sum f none = ap (sum_of f) (older-outside first from clock es ordered) ∙ sum-turned (is_since first) f none es [] ∙ omega arith

  -- a reading looks at no more entries than those that are not before the time, and one
  pub few-looked-at : looked_at first es ≤ length (keep (is_since first) es) + 1
  unfolding looked_at newest
  few-looked-at = omega (arith, looked-few (is_since first) (reverse es), newest-many)

-- the entries in the first places, and the one in the place after them
entries-more : (i : ℕ) (xs : List ℕ) → entries_of (suc i) xs ≡ entries_of i xs ++ (entry_at (drop (i * 2) xs) ∷ [])
unfolding places
entries-more zero xs = refl
entries-more (suc i) xs =
    let next : 2 + i * 2 ≡ suc i * 2 = omega arith in
    ap (λ (l : List Entry). entry_at xs ∷ l) (entries-more i (drop 2 xs) ∙ ap (λ (l : List ℕ). entries_of i (drop 2 xs) ++ (entry_at l ∷ [])) (drop-drop (i * 2) 2 xs ∙ ap (λ (n : ℕ). drop n xs) next))

-- one entry more is read: it is passed, or the reading stops
module _ (first : ℕ) (xs : List ℕ) (i : ℕ) (some : 0 < i) {e : Entry} (is : e ≡ entry_at (drop ((i - 1) * 2) xs)) where
  turned : reverse (entries_of i xs) ≡ e ∷ reverse (entries_of (i - 1) xs)
  turned =
      let next : i ≡ suc (i - 1) = omega arith in
      ap (λ (n : ℕ). reverse (entries_of n xs)) next ∙ ap reverse (entries-more (i - 1) xs)
      ∙ reverse-append (entries_of (i - 1) xs) (entry_at (drop ((i - 1) * 2) xs) ∷ [])
      ∙ ap (λ (a : Entry). a ∷ reverse (entries_of (i - 1) xs)) (sym is)

  pub read-on : is_since first e ≡ true → newest first (entries_of i xs) ≡ e ∷ newest first (entries_of (i - 1) xs)
  unfolding newest passed
  read-on t = rw (turned, t)

  pub read-stop : is_since first e ≡ false → newest first (entries_of i xs) ≡ []
  unfolding newest passed
  read-stop t = rw (turned, t)

  -- one entry less is left to look at
  pub read-less : is_since first e ≡ true → looked_at first (entries_of i xs) ≡ looked_at first (entries_of (i - 1) xs) + 1
  unfolding looked_at looked
  read-less t = rw (turned, t)

pub read-end : (first : ℕ) (xs : List ℕ) (i : ℕ) → i ≤ 0 → newest first (entries_of i xs) ≡ []
unfolding newest passed places
read-end first xs i h = let none : i ≡ 0 = omega arith in rw none
