-- How many bits are set, and the lowest of them: what the processor's two operations give. Assumes nothing.
use mathlib.Core.Path.{◌≡◌, refl, sym, ap, ap₂, ◌∙◌}
use Prim.Native.Nat.{ℕ, zero, suc, ◌+◌, ◌/◌, ◌%◌, ◌^◌, ◌<◌}
use native.Mathlib.Omega.{arith}
use lib.Arith.{lt-one}
use lib.Bits.{bit_or, or_lt}
use lib.Count.{ones, ones_step, count_trailing_zeros, under}
use Rattle.bits.specs.Locks.{bit, count, here, first, either}
use Rattle.bits.proofs.Words.{bit-half, bit-or, bit-zero, half_lt}

pub count-ext : (f g : ℕ → ℕ) (n : ℕ) → ((r : ℕ) → r < n → f r ≡ g r) → count f n ≡ count g n
unfolding count
count-ext f g zero h = refl
count-ext f g (suc n) h =
    ap₂ (λ (x y : ℕ). x + y) (h 0 (omega arith)) (count-ext (λ r. f (suc r)) (λ r. g (suc r)) n (λ r l. h (suc r) (omega arith)))

pub first-ext : (f g : ℕ → ℕ) (n : ℕ) → ((r : ℕ) → r < n → f r ≡ g r) → first f n ≡ first g n
unfolding first
first-ext f g zero h = refl
first-ext f g (suc n) h =
    ap₂ here (h 0 (omega arith)) (first-ext (λ r. f (suc r)) (λ r. g (suc r)) n (λ r l. h (suc r) (omega arith)))

-- count_ones
pub ones-count : (n w : ℕ) → w < 2 ^ n → ones w ≡ count (bit w) n
unfolding count ones
ones-count zero w h = ap ones (lt-one h)
ones-count (suc n) w h =
    ones_step w
    ∙ ap₂ (λ (x y : ℕ). x + y) (sym (bit-zero w)) (ones-count n (w / 2) (half_lt w n h) ∙ count-ext (bit (w / 2)) (λ r. bit w (suc r)) n (λ r l. bit-half w r))

-- trailing_zeros
under-here : (d t : ℕ) → under d t ≡ here d t
unfolding here
under-here zero t = refl
under-here (suc d) t = refl

pub trailing-first : (n w : ℕ) → count_trailing_zeros n w ≡ first (bit w) n
unfolding count_trailing_zeros first
trailing-first zero w = refl
trailing-first (suc n) w =
    under-here (w % 2) (count_trailing_zeros n (w / 2))
    ∙ ap₂ here (sym (bit-zero w)) (trailing-first n (w / 2) ∙ first-ext (bit (w / 2)) (λ r. bit w (suc r)) n (λ r l. bit-half w r))

-- the union's counts, of words of 64 bits
pub ones-either : (a b : ℕ) → a < 2 ^ 64 → b < 2 ^ 64 → ones (bit_or a b) ≡ count (either a b) 64
ones-either a b h k = ones-count 64 (bit_or a b) (or_lt 64 a b h k) ∙ count-ext (bit (bit_or a b)) (either a b) 64 (λ r l. bit-or a b r)

pub trailing-either : (a b : ℕ) → count_trailing_zeros 64 (bit_or a b) ≡ first (either a b) 64
trailing-either a b = trailing-first 64 (bit_or a b) ∙ first-ext (bit (bit_or a b)) (either a b) 64 (λ r l. bit-or a b r)
