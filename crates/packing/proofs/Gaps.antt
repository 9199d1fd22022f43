-- What gaps tell, one by one and joined. Assumes nothing.
use Rattle.std.proofs.Common.{◌≡◌, ℕ, ◌+◌, ◌/◌, ◌%◌, ◌<◌, min, Bool, true, false, ◌&&◌, ltb, leb, refl, ◌∙◌, ap₂, arith, ltb-false, ltb-true, le-ltb, lt-ltb, le-leb, leb-false, leb-true}
use lib.Bits.{bit_or, or_add_and, and_le_l, and_le_r, or_lt}
use Rattle.laws.proofs.Tests.{same_test}
use Rattle.measures.specs.Ranges.{Range, is_in, premiums, offers}
use Rattle.packing.specs.EntryPlace.{is_entry_but_time}
use Rattle.packing.specs.Gaps.{gap_of, is_clear, range_gaps, entry_gaps}

abbrev top : ℕ
top = 9_223_372_036_854_775_808

-- joined gaps are clear just if each is
pub or-clear : (a b : ℕ) → is_clear (bit_or a b) ≡ (is_clear a && is_clear b)
or-clear a b = go (ltb a top) refl (ltb b top) refl
  where
    go : (x : Bool) → ltb a top ≡ x → (y : Bool) → ltb b top ≡ y → ltb (bit_or a b) top ≡ (x && y)
    go true e true f = lt-ltb (bit_or a b) top (or_lt 63 a b (ltb-true a top e) (ltb-true b top f))
    go true e false f = le-ltb (bit_or a b) top (omega (arith, or_add_and a b, and_le_l a b, ltb-false b top f))
    go false e y f = le-ltb (bit_or a b) top (omega (arith, or_add_and a b, and_le_r a b, ltb-false a top e))

-- a gap is clear just if it is none below zero
pub gap-clear : (a b : ℕ) → a < top → b < top → is_clear (gap_of a b) ≡ leb b a
unfolding gap_of
gap-clear a b low few = go (leb b a) refl
  where
    go : (x : Bool) → leb b a ≡ x → is_clear (gap_of a b) ≡ x
    go true e = let l = leb-true b a e in lt-ltb (gap_of a b) top (omega arith)
    go false e = let l = leb-false b a e in le-ltb (gap_of a b) top (omega arith)

-- a number is in a range
pub range_clear : (range : Range) (n : ℕ) → range.least < top → range.most < top → n < top → is_clear (range_gaps range n) ≡ is_in range n
range_clear range n least most low =
    or-clear (gap_of n range.least) (gap_of range.most n)
    ∙ ap₂ (λ (a b : Bool). a && b) (gap-clear n range.least low least) (gap-clear range.most n most low)

-- a root is one of so many
pub root-clear : (roots root : ℕ) → root < 64 → is_clear (gap_of (min roots 64) (root + 1)) ≡ ltb root roots
root-clear roots root low =
    gap-clear (min roots 64) (root + 1) (omega arith) (omega arith)
    ∙ same_test (leb (root + 1) (min roots 64)) (ltb root roots)
    (λ h. let l = leb-true (root + 1) (min roots 64) h in lt-ltb root roots (omega arith))
    (λ h. let l = ltb-true root roots h in le-leb (root + 1) (min roots 64) (omega arith))

-- the gaps of an entry's two numbers are clear just if these are in range
pub entry-clear : (roots fill amount : ℕ) → amount < 18_446_744_073_709_551_616 → is_clear (entry_gaps roots fill amount) ≡ is_entry_but_time roots fill amount
unfolding entry_gaps
entry-clear roots fill amount fits =
    let root = gap_of (min roots 64) (fill / 16 % 64 + 1) in
    let premium = range_gaps premiums (amount / 1_048_576) in
    let contracts = range_gaps offers (amount % 1_048_576) in
    or-clear (bit_or root premium) contracts
    ∙ ap₂ (λ (a b : Bool). a && b)
    (or-clear root premium
    ∙ ap₂ (λ (a b : Bool). a && b) (root-clear roots (fill / 16 % 64) (omega arith)) (range_clear premiums (amount / 1_048_576) (omega arith) (omega arith) (omega arith)))
    (range_clear offers (amount % 1_048_576) (omega arith) (omega arith) (omega arith))
