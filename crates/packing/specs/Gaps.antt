-- Gaps: numbers that tell by their highest bit that one of two is less, joined to one. Assumes nothing.
use Rattle.std.specs.Prelude.{ℕ, ◌+◌, ◌-◌, ◌/◌, ◌%◌, min, Bool, bit_or, nat_lt}
use Rattle.measures.specs.Ranges.{Range, premiums, offers}

-- how far a is above b, modulo 2^64
unfoldable pub gap_of : ℕ → ℕ → ℕ
gap_of a b = (a + 18_446_744_073_709_551_616 - b) % 18_446_744_073_709_551_616

-- none of the gaps that were joined is at or above 2^63
abbrev pub is_clear : ℕ → Bool
is_clear n = nat_lt n 9_223_372_036_854_775_808

-- a number from the least to the most of a range
abbrev pub range_gaps : Range → ℕ → ℕ
range_gaps range n = bit_or (gap_of n range.least) (gap_of range.most n)

-- two numbers tell a root, a premium with nothing above it, and contracts, each in its range
unfoldable pub entry_gaps : ℕ → ℕ → ℕ → ℕ
entry_gaps roots fill amount =
    bit_or (bit_or (gap_of (min roots 64) (fill / 16 % 64 + 1)) (range_gaps premiums (amount / 1_048_576))) (range_gaps offers (amount % 1_048_576))
