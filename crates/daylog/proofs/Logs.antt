-- A log that holds entries: each is in range, and its numbers are the table of them. Assumes nothing.
use Prim.Native.Nat.{ℕ, zero, suc, ◌+◌, ◌*◌, ◌≤◌, ◌<◌}
use mathlib.Core.Path.{◌≡◌, refl, sym, ap, ◌∙◌, subst}
use mathlib.Core.Bool.{Bool, true, false, ◌&&◌}
use mathlib.Core.List.{List, [], ◌∷◌, ◌++◌, append-nil}
use native.Mathlib.Omega.{arith}
use lib.ListN.{length, get_or, take, drop, set, drop_of_length-le}
use lib.Seq.{take_all}
use borrow.Author.Tests.{lt-leb, le-leb}
use Rattle.laws.proofs.Tests.{and_l, and_r, and_i}
use Rattle.laws.specs.Lists.{same}
use Rattle.laws.proofs.Lists.{same-eq}
use Rattle.tables.specs.Inner.Tables.{all_zero, places, is_place, places_pass}
use Rattle.laws.specs.Folds.{every}
use Rattle.machine.specs.Entries.{is_entry, are_ordered, is_flagged}
use Rattle.machine.specs.declared.Entry.{Entry}
use Rattle.packing.specs.EntryPlace.{entry_at, entry_numbers, is_entry_place, log_table}
use Rattle.packing.proofs.Parts.{two}
use Rattle.tables.proofs.Tables.{Codec, is-table, valid-places, length-table, length-places, place-table, places-table, rest-table}
use Rattle.tables.proofs.Passing.{pass-each, each-pass}
use Rattle.packing.proofs.EntryPlace.{entry-codec, entry-wider}
use Rattle.daylog.specs.Inner.Log.{is_log_place, entries_hold, log_holds, HeldLog, HeldIn, entries_of, places_in, entries_in, log_numbers}

-- an entry of at most 64 roots in its place
pub codec : Codec 2 (is_entry 64) entry_at entry_numbers
codec = entry-codec 64 (omega arith)

pub place-valid : (n : ℕ) (xs : List ℕ) → is_entry_place n xs ≡ true → is_entry n (entry_at xs) ≡ true
unfolding is_place
place-valid n xs h = and_r (same (take 2 xs) (entry_numbers (entry_at xs))) (is_entry n (entry_at xs)) h

place-wider : (n : ℕ) (xs : List ℕ) → n ≤ 64 → is_entry_place n xs ≡ true → is_entry_place 64 xs ≡ true
unfolding is_place
place-wider n xs few h =
    let numbers = same (take 2 xs) (entry_numbers (entry_at xs)) in
    and_i (and_l numbers (is_entry n (entry_at xs)) h) (entry-wider n 64 (entry_at xs) few (place-valid n xs h))

-- the two numbers of a place are those of its entry
pub place-numbers : (xs : List ℕ) (at : ℕ) → at + 1 < length xs → is_entry_place 64 (drop at xs) ≡ true
    → get_or xs at 0 ∷ get_or xs (at + 1) 0 ∷ [] ≡ entry_numbers (entry_at (drop at xs))
unfolding is_place
place-numbers xs at h pass =
    let numbers = entry_numbers (entry_at (drop at xs)) in
    let first : take 2 (drop at xs) ≡ get_or xs at 0 ∷ get_or xs (at + 1) 0 ∷ [] = ap (take 2) (two xs at h) in
    sym first ∙ same-eq (take 2 (drop at xs)) numbers (and_l (same (take 2 (drop at xs)) numbers) (is_entry 64 (entry_at (drop at xs))) pass)

module _ {k : ℕ} {xs : List ℕ} (h : HeldLog k xs) where
  pub held-entry : {i : ℕ} {e : Entry} → i < k → e ≡ entry_at (drop (i * 2) xs) → is_entry 64 e ≡ true
  held-entry {i = i} l is = ap (is_entry 64) is ∙ place-valid 64 (drop (i * 2) xs) (pass-each 2 (is_entry_place 64) k xs h.entries i l)

  pub held-valid : every (is_entry 64) (entries_of k xs) ≡ true
  held-valid = valid-places codec k xs (pass-each 2 (is_entry_place 64) k xs h.entries)

  pub held-table : xs ≡ log_table (entries_of k xs)
  held-table = is-table codec 512 k xs h.size (pass-each 2 (is_entry_place 64) k xs h.entries) h.rest

-- entries in order of time, none later than the clock, each with a flag
abbrev pub are_logged : ℕ → List Entry → Bool
are_logged clock es = are_ordered 0 clock es && every is_flagged es

-- the test by its parts: the first places are those of entries, these are so, and the other places are 0
pass-flagged : (n k : ℕ) (xs : List ℕ) → places_pass 2 (is_log_place n) k xs ≡ (places_pass 2 (is_entry_place n) k xs && every is_flagged (places 2 entry_at k xs))
unfolding places_pass places every is_log_place
pass-flagged n zero xs = refl
pass-flagged n (suc k) xs = rw (pass-flagged n k (drop 2 xs)) (swap (is_entry_place n xs) (is_flagged (entry_at xs)) _ _)
  where
    swap : (a b c d : Bool) → ((a && b) && (c && d)) ≡ ((a && c) && (b && d))
    swap true true c d = refl
    swap true false true d = refl
    swap true false false d = refl
    swap false b c d = refl

pub holds_parts : (n clock k : ℕ) (xs : List ℕ)
    → entries_hold n clock k xs
    ≡ (places_pass 2 (is_entry_place n) k xs && are_logged clock (entries_of k xs) && all_zero (drop (k * 2) xs))
unfolding entries_hold
holds_parts n clock k xs =
    let es = entries_of k xs in
    ap (λ (b : Bool). b && are_ordered 0 clock es && all_zero (drop (k * 2) xs)) (pass-flagged n k xs)
    ∙ ap (λ (b : Bool). b && all_zero (drop (k * 2) xs)) (turn (places_pass 2 (is_entry_place n) k xs) (every is_flagged es) (are_ordered 0 clock es))
  where
    turn : (a b c : Bool) → ((a && b) && c) ≡ (a && (c && b))
    turn true true true = refl
    turn true true false = refl
    turn true false true = refl
    turn true false false = refl
    turn false b c = refl

-- a log that passes the test holds entries, and so does the table of entries in range
pub log-held : (n clock k : ℕ) (xs : List ℕ) → n ≤ 64 → length xs ≡ 1024 → k ≤ 512 → entries_hold n clock k xs ≡ true → HeldLog k xs
unfolding entries_hold is_log_place
log-held n clock k xs few size fits h =
    let pass = places_pass 2 (is_log_place n) k xs in
    let ordered = are_ordered 0 clock (places 2 entry_at k xs) in
    let rest = all_zero (drop (k * 2) xs) in
    let each = pass-each 2 (is_log_place n) k xs (and_l pass ordered (and_l (pass && ordered) rest h)) in
    record {
      size = size;
      fits = fits;
      entries = each-pass 2 (is_entry_place 64) k xs (λ i l. place-wider n (drop (i * 2) xs) few (and_l (is_entry_place n (drop (i * 2) xs)) (is_flagged (entry_at (drop (i * 2) xs))) (each i l)));
      rest = and_r (pass && ordered) rest h;
    }

pub table-held : (es : List Entry) → length es ≤ 512 → every (is_entry 64) es ≡ true → HeldLog (length es) (log_table es)
table-held es fits v = record {
  size = length-table codec 512 es fits;
  fits = fits;
  entries = each-pass 2 (is_entry_place 64) (length es) (log_table es) (λ i l. place-table codec 512 es i (entry_at []) v l);
  rest = rest-table codec 512 es;
}

-- a table of the log with its count in front: places that take the place of others, and a count with them
nothing-after : (xs : List ℕ) → length xs ≡ 1024 → drop 1024 xs ≡ []
nothing-after xs l = drop_of_length-le xs {i = 1024} (omega arith)

pub set-table : (xs ys : List ℕ) (n : ℕ) (es : List Entry) → length xs ≡ 1025 → n ≡ length es → ys ≡ log_table es
    → set (take 1 xs ++ (ys ++ drop 1024 (drop 1 xs))) 0 n ≡ log_numbers es
set-table [] ys n es l k e = absurd (omega arith)
set-table (x ∷ xs) ys n es l k e = (λ i. k i ∷ (e i ++ nothing-after xs (omega arith) i)) ∙ ap (λ (q : List ℕ). length es ∷ q) (append-nil (log_table es))

-- as many entries as the table says
pub entries-many : (xs : List ℕ) → length (entries_in xs) ≡ get_or xs 0 0
entries-many xs = length-places codec (get_or xs 0 0) (places_in xs)

-- the test of a table, by its count
module _ (n clock : ℕ) (xs : List ℕ) where
  pub log-many : 512 < get_or xs 0 0 → false ≡ log_holds n clock xs
  unfolding log_holds
  log-many h = rw (lt-leb _ _ h)

  pub log-few : get_or xs 0 0 ≤ 512 → (b : Bool) → b ≡ entries_hold n clock (get_or xs 0 0) (places_in xs) → b ≡ log_holds n clock xs
  unfolding log_holds
  log-few h b e = e ∙ sym (ap (λ (a : Bool). a && entries_hold n clock (get_or xs 0 0) (places_in xs)) (le-leb _ _ h))

-- the table of entries in range holds them, and they are read from it again
pub numbers-held : (es : List Entry) → length es ≤ 512 → every (is_entry 64) es ≡ true → HeldIn (log_numbers es)
numbers-held es fits v =
    let h = table-held es fits v in
    record { long = omega (arith, h.size); held = subst (HeldLog (length es)) (sym (take_all 1024 (log_table es) (omega (arith, h.size)))) h }

pub numbers-entries : (es : List Entry) → length es ≤ 512 → every (is_entry 64) es ≡ true → entries_in (log_numbers es) ≡ es
numbers-entries es fits v =
    let h = table-held es fits v in
    ap (entries_of (length es)) (take_all 1024 (log_table es) (omega (arith, h.size))) ∙ places-table codec 512 es v
