-- How many digits a number has, told by how many bits it has. Assumes nothing.
use Prim.Native.Nat.{ℕ, zero, suc, ◌+◌, ◌-◌, ◌*◌, ◌/◌, ◌^◌, ◌≤◌, ◌<◌}
use mathlib.Core.Path.{◌≡◌, refl, sym, ap, ◌∙◌}
use mathlib.Core.Bool.{Bool, true, ◌&&◌}
use mathlib.Core.List.{List, [], ◌∷◌, map}
use lib.Count.{count_leading_zeros, leading_of_zero, leading_top}
use Rattle.std.specs.Int.{div_ceil}
use lib.Dec.{leb, lit<}
use lib.ListN.{length, get_or, length-append, length-map}
use borrow.Author.Tests.{eqb-true, leb-true}
use native.Mathlib.Decide.{dec_lt}
use native.Mathlib.Nat.{pow-zero, pow-suc, one-le-pow, div-lt_iff_lt-mul, le-div_iff_mul-le, one-mul}
use native.Mathlib.Numerals.{add-one}
use native.Mathlib.Omega.{arith}
use Rattle.laws.proofs.Tests.{and_l, and_r}
use Rattle.text.specs.Digits.{digits_up_to, name_bytes, decimal}
use Rattle.text.proofs.InBase.{digits-none, digits_last}

-- a number between two powers of the base
module _ (base : ℕ) (b : 0 < base) where
  pub digits_between : (most k n : ℕ) → k < most → base ^ k ≤ n → n < base ^ suc k → length (digits_up_to base most n) ≡ suc k
  digits_between zero k n h l u = absurd (omega arith)
  digits_between (suc most) zero n h l u =
      let some : 0 < n = omega (arith, pow-zero base) in
      let none : n / base ≡ 0 = omega (arith, (div-lt_iff_lt-mul {k = base} {x = n} {y = 1} b).1 (omega (arith, pow-suc base 0 ∙ ap (λ (x : ℕ). x * base) (pow-zero base), one-mul base))) in
      rw (digits_last base most n some, length-append, none, digits-none base most) (omega arith)
  digits_between (suc most) (suc k) n h l u =
      let some : 0 < n = omega (arith, one-le-pow (suc k) base b) in
      let above = digits_between most k (n / base) (omega arith) ((le-div_iff_mul-le b).1 (omega (arith, pow-suc base k))) ((div-lt_iff_lt-mul b).1 (omega (arith, pow-suc base (suc k)))) in
      rw (digits_last base most n some, length-append, above) (omega arith)

-- decimal digits
pub decimal-is : (n : ℕ) → 0 < n → decimal n ≡ map (λ d. d + 48) (digits_up_to 10 20 n)
unfolding decimal
decimal-is n h = ap (map (λ d. d + 48)) (sym (digits_last 10 19 n h))

pub decimal-between : (k n : ℕ) → k < 20 → 10 ^ k ≤ n → n < 10 ^ suc k → length (decimal n) ≡ suc k
decimal-between k n h l u =
    let some : 0 < n = omega (arith, one-le-pow k 10 (lit< tt)) in
    rw (decimal-is n some, length-map) (digits_between 10 (lit< tt) 20 k n h l u)

pub decimal-naught : length (decimal 0) ≡ 1
unfolding decimal digits_up_to
decimal-naught = refl

-- a test that holds of each number below a bound, which is computed
below : (ℕ → Bool) → ℕ → Bool
below p zero = true
below p (suc k) = p k && below p k

below_at : (p : ℕ → Bool) (k : ℕ) → below p k ≡ true → (j : ℕ) → j < k → p j ≡ true
unfolding below
below_at p zero h j l = absurd (omega arith)
below_at p (suc k) h j l = go (dec_lt j k) (below_at p k (and_r (p k) (below p k) h) j)
  where
    go : Dec (j < k) → (j < k → p j ≡ true) → p j ≡ true
    go (yes m) f = f m
    go (no m) f =
        let last : k ≡ j = omega arith in
        ap p (sym last) ∙ and_l (p k) (below p k) h

-- the place of the highest bit bounds a number by powers of the base
pub record Between (base least more n : ℕ) : Type 0 where
  pub low : base ^ least ≤ n
  pub high : n < base ^ more

abbrev bounds : ℕ → (ℕ → ℕ) → (ℕ → ℕ) → ℕ → Bool
bounds base least more j = leb (base ^ least j) (2 ^ j) && leb (2 ^ suc j) (base ^ more j)

module _ (base : ℕ) (least more : ℕ → ℕ) (right : below (bounds base least more) 64 ≡ true) where
  by_bits : (n : ℕ) → 0 < n → n < 2 ^ 64 → (j : ℕ) × (count_leading_zeros 64 n + suc j ≡ 64) × Between base (least j) (more j) n
  by_bits n some fits =
      let top = leading_top 64 n some fits in
      let j = top.0 in
      let here = below_at (bounds base least more) 64 right j (omega (arith, top.1)) in
      let low = leb-true (base ^ least j) (2 ^ j) (and_l (leb (base ^ least j) (2 ^ j)) (leb (2 ^ suc j) (base ^ more j)) here) in
      let high = leb-true (2 ^ suc j) (base ^ more j) (and_r (leb (base ^ least j) (2 ^ j)) (leb (2 ^ suc j) (base ^ more j)) here) in
      (j, top.1, record { low = omega (arith, low, top.2); high = omega (arith, high, top.3) })

-- a name's bytes are its bits by eights
name-right : below (bounds 256 (λ j. j / 8) (λ j. suc (j / 8))) 64 ≡ true
unfolding below
name-right = refl

pub name-bits : (n : ℕ) → n < 2 ^ 64 → div_ceil (64 - count_leading_zeros 64 n) 8 ≡ length (name_bytes n)
unfolding name_bytes
name-bits n fits = go (dec_lt 0 n)
  where
    go : Dec (0 < n) → div_ceil (64 - count_leading_zeros 64 n) 8 ≡ length (digits_up_to 256 8 n)
    go (yes some) =
        let b = by_bits 256 (λ j. j / 8) (λ j. suc (j / 8)) name-right n some fits in
        let size = digits_between 256 (lit< tt) 8 (b.0 / 8) n (omega (arith, b.1)) b.2.low b.2.high in
        omega (arith, size, b.1)
    go (no none) =
        let z : n ≡ 0 = omega arith in
        rw (z, leading_of_zero 64, digits-none 256 8)

-- a number's decimal digits are one more than its logarithm
pub decimal-log : (n k : ℕ) → 10 ^ k ≤ n → n < 10 * 10 ^ k → k < 20 → k + 1 ≡ length (decimal n)
decimal-log n k low high few = sym (decimal-between k n few low (omega (arith, pow-suc 10 k)) ∙ sym (add-one k))
