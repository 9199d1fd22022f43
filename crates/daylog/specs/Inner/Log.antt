-- The log in its places, and what the loops over them leave. Assumes nothing.
use Rattle.std.specs.Prelude.{ℕ, ◌*◌, ◌-◌, ◌≤◌, ◌≡◌, Bool, true, ◌&&◌, List, [], ◌∷◌, ◌++◌, length, get_or, take, drop, leb}
use Rattle.tables.specs.Inner.Tables.{all_zero, places, places_pass}
use Rattle.packing.specs.EntryPlace.{entry_at, is_entry_place, log_table}
use Rattle.machine.specs.declared.Entry.{Entry}
use Rattle.machine.specs.Entries.{are_ordered, is_flagged, recent}

-- a place of the log holds an entry of n roots that counts for its root or for the firm
unfoldable pub is_log_place : ℕ → List ℕ → Bool
is_log_place n xs = is_entry_place n xs && is_flagged (entry_at xs)

-- the first k of the log's places hold such entries, in order of time, none later than the clock, and the others 0
unfoldable pub entries_hold : ℕ → ℕ → ℕ → List ℕ → Bool
entries_hold n clock k xs = places_pass 2 (is_log_place n) k xs && are_ordered 0 clock (places 2 entry_at k xs) && all_zero (drop (k * 2) xs)

-- the numbers of the log's 512 places: the first k places hold entries, of at most 64 roots, and the others 0
pub record HeldLog (k : ℕ) (xs : List ℕ) : Type 0 where
  pub size : length xs ≡ 1024
  pub fits : k ≤ 512
  pub entries : places_pass 2 (is_entry_place 64) k xs ≡ true
  pub rest : all_zero (drop (k * 2) xs) ≡ true

-- the places of the log's table, which has its count in front
abbrev pub places_in : List ℕ → List ℕ
places_in xs = take 1024 (drop 1 xs)

-- the log's table holds as many entries as it says, so
unfoldable pub log_holds : ℕ → ℕ → List ℕ → Bool
log_holds n clock xs = leb (get_or xs 0 0) 512 && entries_hold n clock (get_or xs 0 0) (places_in xs)

-- a table of the log that holds as many entries as it says
pub record HeldIn (xs : List ℕ) : Type 0 where
  pub long : length xs ≡ 1025
  pub held : HeldLog (get_or xs 0 0) (places_in xs)

-- the entries in the first k places
abbrev pub entries_of : ℕ → List ℕ → List Entry
entries_of k xs = places 2 entry_at k xs

-- the entries of the log's table
abbrev pub entries_in : List ℕ → List Entry
entries_in xs = entries_of (get_or xs 0 0) (places_in xs)

-- the numbers of the log's table: how many entries there are, and their places
abbrev pub log_numbers : List Entry → List ℕ
log_numbers es = length es ∷ log_table es

-- the last n of some entries
abbrev pub last_of : ℕ → List Entry → List Entry
last_of n es = drop (length es - n) es

-- the log's places once its last n entries moved down: these first, and after them what stood there
abbrev pub moved_log : ℕ → List Entry → List ℕ
moved_log n es = log_table (last_of n es ++ drop n es)

-- the entries after one joined: the last n of them, and then the new one
abbrev pub joined_entries : ℕ → Entry → List Entry → List Entry
joined_entries n e es = last_of n es ++ (e ∷ [])

-- of the k entries in xs the r inside a window are the last ones
pub record Last (window time k : ℕ) (xs : List ℕ) (r : ℕ) : Type 0 where
  pub count : r ≡ length (recent window time (entries_of k xs))
  pub most : r ≤ k
  pub last : recent window time (entries_of k xs) ≡ drop (k - r) (entries_of k xs)

-- ys holds just these entries, and r is how many they are
pub record Left (es : List Entry) (ys : List ℕ) (r : ℕ) : Type 0 where
  pub count : r ≡ length es
  pub log : ys ≡ log_table es
