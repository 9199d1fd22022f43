-- An order sent away in two numbers. Assumes nothing.
use Rattle.std.specs.Prelude.{ℕ, ◌+◌, ◌/◌, ◌%◌, min, Bool, List, [], ◌∷◌, get_or}
use Rattle.std.specs.Int.Bits.{bit_or}
use Rattle.measures.specs.Ranges.{premiums}
use Rattle.bits.specs.Fields.{packed, unpacked}
use Rattle.machine.specs.Register.{is_sent}
use Rattle.machine.specs.declared.Sent.{Sent}
use Rattle.shapes.specs.Shape.{Shape, coded}
use Rattle.tables.specs.Inner.Tables.{is_place}
use Rattle.packing.specs.EntryPlace.{amount_widths}
use Rattle.packing.specs.Gaps.{gap_of, range_gaps}

-- the widths of the first number's fields: spare, identity, root, unit, reports still allowed; the second's are those of an entry's
abbrev pub sent_widths : List ℕ
sent_widths = 35 ∷ 16 ∷ 6 ∷ 2 ∷ 5 ∷ []

-- the values of these fields
unfoldable pub sent_values : Sent → List ℕ
sent_values sent = 0 ∷ sent.identity ∷ sent.root ∷ sent.unit ∷ sent.reports ∷ []

unfoldable pub open_values : Sent → List ℕ
open_values sent = 0 ∷ sent.premium.0 ∷ sent.contracts.0 ∷ []

-- the two numbers of an order
unfoldable pub sent_numbers : Sent → List ℕ
sent_numbers sent = packed sent_widths (sent_values sent) ∷ packed amount_widths (open_values sent) ∷ []

-- the order that the values of the fields stand for
unfoldable pub sent_by : List ℕ → List ℕ → Sent
sent_by v w = record {
  identity = get_or v 1 0;
  root = get_or v 2 0;
  unit = get_or v 3 0;
  premium = record { 0 = get_or w 1 0 };
  contracts = record { 0 = get_or w 2 0 };
  reports = get_or v 4 0;
}

-- the order that the first two numbers stand for
unfoldable pub sent_from : List ℕ → Sent
sent_from xs = sent_by (unpacked sent_widths (get_or xs 0 0)) (unpacked amount_widths (get_or xs 1 0))

-- the first two numbers are just those of an order with so many roots
abbrev pub is_sent_place : ℕ → List ℕ → Bool
is_sent_place roots xs = is_place 2 (is_sent roots) sent_from sent_numbers xs

-- an order with so many roots, in its two numbers
unfoldable pub sent_shape : ℕ → Shape 2 Sent
sent_shape roots = coded 2 (is_sent roots) sent_from sent_numbers

-- two numbers tell an identity with nothing above it, a root, reports, a premium with nothing above it, and contracts, each in its range
unfoldable pub sent_gaps : ℕ → ℕ → ℕ → ℕ
sent_gaps roots first second =
    bit_or (bit_or (bit_or (bit_or (gap_of 65_535 (first / 8192)) (gap_of (min roots 64) (first / 128 % 64 + 1))) (gap_of 16 (first % 32)))
    (range_gaps premiums (second / 1_048_576))) (gap_of 1_000_000 (second % 1_048_576))
