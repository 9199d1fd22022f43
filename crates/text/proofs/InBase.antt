-- The digits of a number in a base stand for that number, and digits are those of the number that they stand for. Assumes nothing.
use Prim.Native.Nat.{ℕ, zero, suc, ◌+◌, ◌-◌, ◌*◌, ◌/◌, ◌%◌, ◌^◌, ◌≤◌, ◌<◌}
use mathlib.Core.Path.{◌≡◌, refl, sym, ap, ◌∙◌}
use mathlib.Core.Bool.{Bool, true, false, cond}
use mathlib.Core.List.{List, [], ◌∷◌, ◌++◌, map}
use lib.ListN.{length, get_or, take, length-append, length-map}
use lib.Seq.{take-suc, take-length}
use lib.Arith.{digits_div, digits_mod}
use lib.Dec.{eqb}
use borrow.Author.Tests.{eqb-true, ne_eqb}
use native.Mathlib.Nat.{pow-zero, pow-suc, one-le-pow, zero-mul, mod-lt, div-lt_iff_lt-mul, div-add-mod'}
use native.Mathlib.Numerals.{add-one}
use native.Mathlib.Omega.{arith}
use Rattle.laws.proofs.Tests.{and_i}
use Rattle.text.specs.Text.{all, numeral}
use Rattle.text.specs.Digits.{digits_up_to}
use Rattle.text.proofs.Bytes.{all_append}

-- a numeral with one digit more, and one whose digits stand for bytes from `naught` on
module _ (base : ℕ) where
  pub numeral-more : (naught : ℕ) (s : List ℕ) (d : ℕ) → numeral base naught (s ++ (d ∷ [])) ≡ numeral base naught s * base + (d - naught)
  unfolding numeral
  numeral-more naught [] d = rw (pow-zero base, zero-mul base) (omega arith)
  numeral-more naught (x ∷ s) d = rw (length-append s (d ∷ []), add-one (length s), pow-suc base (length s), numeral-more naught s d) (omega arith)

  pub numeral-from : (naught : ℕ) (s : List ℕ) → numeral base naught (map (λ d. d + naught) s) ≡ numeral base 0 s
  unfolding numeral
  numeral-from naught [] = refl
  numeral-from naught (x ∷ s) =
      let same : x + naught - naught ≡ x - 0 = omega arith in
      rw (same, length-map s (λ d. d + naught), numeral-from naught s)

  pub digits-none : (most : ℕ) → digits_up_to base most 0 ≡ []
  unfolding digits_up_to
  digits-none zero = refl
  digits-none (suc most) = refl

  -- the last digit of a number that is not 0 comes after those of what stands above it
  pub digits_last : (most n : ℕ) → 0 < n → digits_up_to base (suc most) n ≡ digits_up_to base most (n / base) ++ ((n % base) ∷ [])
  unfolding digits_up_to
  digits_last most n h = rw (ne_eqb n 0 (λ e. omega arith))

-- a number's digits are at most so many, some unless it is 0, and each is below the base
module _ (base : ℕ) (b : 0 < base) where
  pub digits-few : (most n : ℕ) → length (digits_up_to base most n) ≤ most
  unfolding digits_up_to
  digits-few zero n = omega arith
  digits-few (suc most) n = go (eqb n 0) (digits-few most (n / base))
    where
      go : (t : Bool) → length (digits_up_to base most (n / base)) ≤ most
          → length (cond t [] (digits_up_to base most (n / base) ++ ((n % base) ∷ []))) ≤ suc most
      go true h = omega arith
      go false h = omega (arith, length-append (digits_up_to base most (n / base)) ((n % base) ∷ []))

  pub digits-some : (most n : ℕ) → 0 < n → 0 < length (digits_up_to base (suc most) n)
  digits-some most n h = rw (digits_last base most n h, length-append) (omega arith)

  pub digits-all : (p : ℕ → Bool) → ((d : ℕ) → d < base → p d ≡ true) → (most n : ℕ) → all p (digits_up_to base most n) ≡ true
  unfolding digits_up_to all
  digits-all p f zero n = refl
  digits-all p f (suc most) n = go (eqb n 0) (digits-all p f most (n / base))
    where
      go : (t : Bool) → all p (digits_up_to base most (n / base)) ≡ true
          → all p (cond t [] (digits_up_to base most (n / base) ++ ((n % base) ∷ []))) ≡ true
      go true h = refl
      go false h = all_append p (digits_up_to base most (n / base)) ((n % base) ∷ []) h (and_i (f (n % base) (mod-lt n b)) refl)

  -- a number that the digits have room for is what they stand for
  pub digits_number : (most n : ℕ) → n < base ^ most → numeral base 0 (digits_up_to base most n) ≡ n
  unfolding digits_up_to numeral
  digits_number zero n h = omega (arith, pow-zero base)
  digits_number (suc most) n h =
      go (eqb n 0) refl (digits_number most (n / base) ((div-lt_iff_lt-mul b).1 (omega (arith, pow-suc base most))))
    where
      go : (t : Bool) → eqb n 0 ≡ t → numeral base 0 (digits_up_to base most (n / base)) ≡ n / base
          → numeral base 0 (cond t [] (digits_up_to base most (n / base) ++ ((n % base) ∷ []))) ≡ n
      go true e h = sym (eqb-true n 0 e)
      go false e h = rw (numeral-more base 0 (digits_up_to base most (n / base)) (n % base), h) (omega (arith, div-add-mod' n base))

  -- and digits that are not all used have room for it
  pub digits-room : (most n : ℕ) → length (digits_up_to base most n) < most → n < base ^ most
  unfolding digits_up_to
  digits-room zero n h = absurd (omega arith)
  digits-room (suc most) n h = go (eqb n 0) refl h (digits-room most (n / base))
    where
      go : (t : Bool) → eqb n 0 ≡ t → length (cond t [] (digits_up_to base most (n / base) ++ ((n % base) ∷ []))) < suc most
          → (length (digits_up_to base most (n / base)) < most → n / base < base ^ most) → n < base ^ suc most
      go true e k f = omega (arith, eqb-true n 0 e, one-le-pow (suc most) base b)
      go false e k f =
          rw (pow-suc base most)
          ((div-lt_iff_lt-mul b).0 (f (omega (arith, length-append (digits_up_to base most (n / base)) ((n % base) ∷ [])))))

  -- digits of which none is 0 are those of the number that they stand for
  module _ (s : List ℕ) (low : (i : ℕ) → i < length s → 0 < get_or s i 0) (high : (i : ℕ) → i < length s → get_or s i 0 < base) where
    first_back : (most k : ℕ) → k ≤ most → k ≤ length s → digits_up_to base most (numeral base 0 (take k s)) ≡ take k s
    unfolding digits_up_to numeral
    first_back zero zero h l = refl
    first_back zero (suc k) h l = absurd (omega arith)
    first_back (suc most) zero h l = refl
    first_back (suc most) (suc k) h l =
        let d = get_or s k 0 in
        let n = numeral base 0 (take k s) in
        let d-low = low k (omega arith) in
        let d-high = high k (omega arith) in
        let is : numeral base 0 (take k s ++ (d ∷ [])) ≡ n * base + d = numeral-more base 0 (take k s) d ∙ omega arith in
        rw (take-suc s k 0 (omega arith), is, digits_last base most (n * base + d) (omega arith), digits_div n d-high, digits_mod n d-high)
        (ap (λ (l : List ℕ). l ++ (d ∷ [])) (first_back most k (omega arith) (omega arith)))

    pub digits-back : (most : ℕ) → length s ≤ most → digits_up_to base most (numeral base 0 s) ≡ s
    digits-back most h = rw take-length at (first_back most (length s) h (omega arith))
