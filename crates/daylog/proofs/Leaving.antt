-- The entries inside a window, in order of time: the last ones, which go to the front. Assumes nothing.
use Prim.Native.Nat.{ℕ, ◌+◌, ◌*◌, ◌-◌, ◌≤◌}
use mathlib.Core.Path.{◌≡◌, refl, sym, ap, ◌∙◌}
use mathlib.Core.Bool.{true}
use mathlib.Core.List.{List, [], ◌∷◌, ◌++◌, append_assoc, append-nil}
use native.Mathlib.Omega.{arith}
use lib.ListN.{length, take, drop, length-append, length-drop, take-append-drop, drop_of_length-le}
use lib.Seq.{take_at, drop_at, length-take-le}
use Rattle.laws.proofs.Tests.{and_l, and_r}
use Rattle.tables.specs.Inner.Tables.{zeros, flat, table_numbers}
use Rattle.packing.specs.EntryPlace.{entry_numbers, log_table}
use Rattle.machine.specs.declared.Entry.{Entry}
use Rattle.rules.specs.Rules.{counts}
use Rattle.rules.specs.declared.Kind.{Kind}
use Rattle.rules.specs.declared.Kind.TheVariants.{Rate}
use Rattle.machine.specs.Entries.{is_entry, are_ordered, recent}
use Rattle.laws.specs.Folds.{every, keep}
use Rattle.machine.proofs.Lists.{keep-le}
use Rattle.tables.proofs.Tables.{length-flat, length-places}
use Rattle.packing.proofs.EntryPlace.{entry-ranged}
use Rattle.daylog.specs.Inner.Log.{HeldLog, entries_of, last_of, moved_log, Last}
use Rattle.daylog.specs.Newest.{is_since, newest, looked_at}
use Rattle.daylog.specs.Inner.Memo.{reading_since, IsRead}
use Rattle.daylog.specs.Inner.Reading.{window_reading}
use Rattle.daylog.specs.Inner.Sieve.{first_time}
use Rattle.daylog.proofs.Logs.{codec, held-valid, held-table}
use Rattle.daylog.proofs.Newest.{newest-many, newest-kept, few-looked-at}
use Rattle.daylog.proofs.Readings.{keep-many}
use Rattle.daylog.proofs.Sifting.{still-counts}
use Rattle.daylog.proofs.Turns.{flat_append}

-- the entries that still count for a kind at a time are those that are not before the first time that does
counts-since : (kind : Kind) (time : ℕ) (es : List Entry) → every (is_entry 64) es ≡ true → keep (λ e. counts kind e.time time) es ≡ keep (is_since (first_time kind time)) es
unfolding keep every
counts-since kind time [] v = refl
counts-since kind time (e ∷ es) v =
    let here = (entry-ranged 64 e (and_l (is_entry 64 e) (every (is_entry 64) es) v)).time in
    rw (still-counts kind e.time time here, counts-since kind time es (and_r (is_entry 64 e) (every (is_entry 64) es) v))

-- a reading for a kind looks at no more entries than those that still count, which are those inside its window, and one
pub few-for-kind : (kind : Kind) (time k : ℕ) (xs : List ℕ) → HeldLog k xs → are_ordered 0 time (entries_of k xs) ≡ true
    → looked_at (first_time kind time) (entries_of k xs) ≤ length (keep (λ e. counts kind e.time time) (entries_of k xs)) + 1
few-for-kind kind time k xs held ordered =
    omega (arith, few-looked-at (first_time kind time) 0 time (entries_of k xs) ordered, ap length (counts-since kind time (entries_of k xs) (held-valid held)))

-- the reading of a window says how many entries are not before its time
pub window-read : (window time k : ℕ) (xs : List ℕ) → HeldLog k xs → IsRead (entries_of k xs) (window_reading window time (entries_of k xs))
unfolding window_reading reading_since recent counts
window-read window time k xs held =
    let es = entries_of k xs in
    ap length (counts-since (Rate window) time es (held-valid held)) ∙ keep-many (first_time (Rate window) time) es

-- in order of time those inside a window are the last ones
module _ (window time k : ℕ) (xs : List ℕ) (held : HeldLog k xs) (ordered : are_ordered 0 time (entries_of k xs) ≡ true) where
  abbrev first : ℕ
  first = first_time (Rate window) time

  recent-since : recent window time (entries_of k xs) ≡ keep (is_since first) (entries_of k xs)
  unfolding recent counts
  recent-since = counts-since (Rate window) time (entries_of k xs) (held-valid held)

  pub inside-last : {r : ℕ} → r ≡ length (newest first (entries_of k xs)) → Last window time k xs r
  inside-last {r} is =
      let es = entries_of k xs in
      let long = length-places codec k xs in
      let many = newest-many first 0 time es ordered in
      record {
        count = is ∙ many ∙ ap length (sym recent-since);
        most = omega (arith, is, many, keep-le (is_since first) es, long);
        last = recent-since ∙ newest-kept first 0 time es ordered ∙ (λ j. drop (long j - sym is j) es);
      }

  -- so many last ones
  pub recent-last : recent window time (entries_of k xs) ≡ last_of (length (recent window time (entries_of k xs))) (entries_of k xs)
  recent-last =
      let l = inside-last refl in
      l.last ∙ (λ j. drop (sym (length-places codec k xs) j - l.count j) (entries_of k xs))

-- the entries that stay, moved to the front
flat-drop : (es : List Entry) (d : ℕ) (zs : List ℕ) → d ≤ length es → drop (d * 2) (flat entry_numbers es ++ zs) ≡ flat entry_numbers (drop d es) ++ zs
flat-drop es d zs h =
    ap (λ (l : List Entry). drop (d * 2) (flat entry_numbers l ++ zs)) (sym (take-append-drop d es))
    ∙ ap (λ (l : List ℕ). drop (d * 2) (l ++ zs)) (flat_append (take d es) (drop d es))
    ∙ ap (drop (d * 2)) (append_assoc (flat entry_numbers (take d es)) (flat entry_numbers (drop d es)) zs)
    ∙ drop_at (flat entry_numbers (take d es)) (flat entry_numbers (drop d es) ++ zs) (d * 2)
    (length-flat codec (take d es) ∙ ap (λ (n : ℕ). n * 2) (length-take-le d es h))

module _ {k : ℕ} {xs : List ℕ} (held : HeldLog k xs) {r : ℕ} (most : r ≤ k) where
  abbrev es : List Entry
  es = entries_of k xs

  long : length es ≡ k
  long = length-places codec k xs

  -- where all entries stay nothing moves
  pub all-kept : r ≡ k → xs ≡ moved_log r es
  all-kept all =
      let none : length es - r ≡ 0 = omega (arith, long) in
      let end : length es ≤ r = omega (arith, long) in
      held-table held ∙ ap log_table (sym (rw (none, drop_of_length-le es end) (append-nil es)))

  pub kept-moved : {ys : List ℕ} → ys ≡ take (r * 2) (drop ((k - r) * 2) xs) ++ drop (r * 2) xs → ys ≡ moved_log r es
  unfolding table_numbers
  kept-moved {ys} e =
      let n = r * 2 in
      let gone = k - r in
      let zs = zeros (512 * 2 - length es * 2) in
      let kept = flat entry_numbers (drop gone es) in
      let is : xs ≡ flat entry_numbers es ++ zs = held-table held in
      let front : drop (gone * 2) xs ≡ kept ++ zs = ap (drop (gone * 2)) is ∙ flat-drop es gone zs (omega (arith, long)) in
      let back : drop n xs ≡ flat entry_numbers (drop r es) ++ zs = ap (drop n) is ∙ flat-drop es r zs (omega (arith, long)) in
      let size : length kept ≡ n = length-flat codec (drop gone es) ∙ omega (arith, length-drop gone es, long) in
      let all : length (drop gone es ++ drop r es) ≡ length es = length-append (drop gone es) (drop r es) ∙ omega (arith, length-drop gone es, length-drop r es, long) in
      let from : length es - r ≡ gone = omega (arith, long) in
      e
      ∙ rw (front, back, take_at kept zs n size, from, all)
      (sym (append_assoc kept (flat entry_numbers (drop r es)) zs)
      ∙ ap (λ (l : List ℕ). l ++ zs) (sym (flat_append (drop gone es) (drop r es))))
