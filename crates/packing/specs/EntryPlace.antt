-- A log entry in two numbers. Assumes nothing.
use Rattle.std.specs.Prelude.{ℕ, ◌/◌, ◌%◌, Bool, cond, ◌&&◌, List, [], ◌∷◌, ◌==◌, nat_lt, slice_index}
use Rattle.measures.specs.Ranges.{is_in, premiums, offers}
use Rattle.bits.specs.Fields.{packed, unpacked}
use Rattle.machine.specs.Entries.{is_entry}
use Rattle.machine.specs.declared.Entry.{Entry}
use Rattle.tables.specs.declared.Place.{Place}
use Rattle.shapes.specs.Shape.{Shape, coded, table as counted}
use Rattle.tables.specs.Inner.Tables.{table_numbers, is_place, place_of}

-- a flag as a bit
abbrev pub flag_number : Bool → ℕ
flag_number b = cond b 1 0

-- the widths of the first number's fields: spare, time, root, unit, counts for its root, counts for the firm
abbrev pub fill_widths : List ℕ
fill_widths = 27 ∷ 27 ∷ 6 ∷ 2 ∷ 1 ∷ 1 ∷ []

-- and of the second's: spare, premium, contracts
abbrev pub amount_widths : List ℕ
amount_widths = 17 ∷ 27 ∷ 20 ∷ []

-- the values of these fields
unfoldable pub fill_values : Entry → List ℕ
fill_values e = 0 ∷ e.time ∷ e.root ∷ e.unit ∷ flag_number e.forroot ∷ flag_number e.forfirm ∷ []

unfoldable pub amount_values : Entry → List ℕ
amount_values e = 0 ∷ e.premium.0 ∷ e.contracts.0 ∷ []

-- the two numbers of an entry
unfoldable pub entry_numbers : Entry → List ℕ
entry_numbers e = packed fill_widths (fill_values e) ∷ packed amount_widths (amount_values e) ∷ []

-- the entry that the values of the fields stand for
unfoldable pub entry_from : List ℕ → List ℕ → Entry
entry_from v w = record {
  time = slice_index v 1;
  root = slice_index v 2;
  unit = slice_index v 3;
  premium = record { 0 = slice_index w 1 };
  contracts = record { 0 = slice_index w 2 };
  forroot = (slice_index v 4 == 1);
  forfirm = (slice_index v 5 == 1);
}

-- the entry that the first two numbers stand for
unfoldable pub entry_at : List ℕ → Entry
entry_at xs = entry_from (unpacked fill_widths (slice_index xs 0)) (unpacked amount_widths (slice_index xs 1))

-- the first two numbers are just those of such an entry
abbrev pub is_entry_place : ℕ → List ℕ → Bool
is_entry_place roots xs = is_place 2 (is_entry roots) entry_at entry_numbers xs

-- two numbers tell a root, a premium with nothing above it, and contracts, each in its range
abbrev pub is_entry_but_time : ℕ → ℕ → ℕ → Bool
is_entry_but_time roots fill amount = nat_lt (fill / 16 % 64) roots && is_in premiums (amount / 1_048_576) && is_in offers (amount % 1_048_576)

-- the two numbers of an entry, 0 and 0 for one with a number out of its range
abbrev pub entry_place : Entry → Place
entry_place e = place_of (is_entry 64) entry_numbers e

-- the entries in the log's 512 places
abbrev pub log_table : List Entry → List ℕ
log_table es = table_numbers 2 512 entry_numbers es

-- an entry with so many roots, in its two numbers
unfoldable pub entry_shape : ℕ → Shape 2 Entry
entry_shape roots = coded 2 (is_entry roots) entry_at entry_numbers

-- the log's table: how many entries there are, and their places
unfoldable pub log_shape : ℕ → Shape 1025 (List Entry)
log_shape roots = counted 512 (entry_shape roots)
