-- A number in decimal digits: how many there are, and that they are read as the number. Assumes nothing.
use Prim.Native.Nat.{ℕ, zero, suc, ◌+◌, ◌/◌, ◌%◌, ◌^◌, ◌≤◌, ◌<◌}
use mathlib.Core.Path.{◌≡◌, refl, ◌∙◌}
use mathlib.Core.Bool.{Bool, true, false, cond}
use mathlib.Core.List.{[], ◌∷◌, ◌++◌}
use lib.ListN.{length, length-append, length-map}
use lib.Dec.{eqb, lit<}
use borrow.Author.Tests.{le-leb}
use native.Mathlib.Nat.{pow-zero, pow-suc, div-lt_iff_lt-mul, mod-lt}
use native.Mathlib.Omega.{arith}
use Rattle.laws.proofs.Tests.{and_i}
use Rattle.text.specs.Text.{all, is_digit, value, field_number}
use Rattle.std.specs.Prelude.{Some}
use Rattle.text.specs.Digits.{digits_up_to, decimal}
use Rattle.text.proofs.Bytes.{all_append, all_map, made_of}
use Rattle.text.proofs.InBase.{numeral-more, numeral-from, digits-few, digits-all, digits_number}

-- a number below a power of the base has no more digits than the power says
pub digits-upto : (base : ℕ) → 0 < base → (most k n : ℕ) → n < base ^ k → length (digits_up_to base most n) ≤ k
unfolding digits_up_to
digits-upto base b zero k n h = omega arith
digits-upto base b (suc most) zero n h =
    let none : n ≡ 0 = omega (arith, pow-zero base) in
    rw (none) (omega arith)
digits-upto base b (suc most) (suc k) n h = go (eqb n 0) (digits-upto base b most k (n / base) ((div-lt_iff_lt-mul b).1 (omega (arith, pow-suc base k))))
  where
    go : (t : Bool) → length (digits_up_to base most (n / base)) ≤ k
        → length (cond t [] (digits_up_to base most (n / base) ++ ((n % base) ∷ []))) ≤ suc k
    go true l = omega arith
    go false l = omega (arith, length-append (digits_up_to base most (n / base)) ((n % base) ∷ []))

-- how many decimal digits there are
decimal-long : (n : ℕ) → length (decimal n) ≡ length (digits_up_to 10 19 (n / 10)) + 1
unfolding decimal
decimal-long n =
    length-map (digits_up_to 10 19 (n / 10) ++ ((n % 10) ∷ [])) (λ d. d + 48) ∙ length-append (digits_up_to 10 19 (n / 10)) ((n % 10) ∷ [])

pub decimal-some : (n : ℕ) → 0 < length (decimal n)
decimal-some n = omega (arith, decimal-long n)

pub decimal-few : (n : ℕ) → length (decimal n) ≤ 20
decimal-few n = omega (arith, decimal-long n, digits-few 10 (lit< tt) 19 (n / 10))

pub decimal-upto : (k n : ℕ) → n < 10 ^ suc k → length (decimal n) ≤ suc k
decimal-upto k n h =
    let tenth = digits-upto 10 (lit< tt) 19 k (n / 10) ((div-lt_iff_lt-mul (lit< tt)).1 (omega (arith, pow-suc 10 k))) in
    omega (arith, decimal-long n)

-- they are digits, and stand for the number
digit : (d : ℕ) → d < 10 → is_digit (d + 48) ≡ true
digit d h = and_i (le-leb 48 (d + 48) (omega arith)) (le-leb (d + 48) 57 (omega arith))

pub decimal-digits : (n : ℕ) → all is_digit (decimal n) ≡ true
unfolding decimal all
decimal-digits n =
    all_map is_digit (λ d. d + 48) (digits_up_to 10 19 (n / 10) ++ ((n % 10) ∷ []))
    ∙ all_append (λ d. is_digit (d + 48)) (digits_up_to 10 19 (n / 10)) ((n % 10) ∷ []) (digits-all 10 (lit< tt) (λ d. is_digit (d + 48)) digit 19 (n / 10))
    (and_i (digit (n % 10) (mod-lt n (lit< tt))) refl)

pub decimal-value : (n : ℕ) → n < 10 ^ 20 → value (decimal n) ≡ n
unfolding decimal
decimal-value n h =
    let above = digits_up_to 10 19 (n / 10) in
    let tenth = digits_number 10 (lit< tt) 19 (n / 10) ((div-lt_iff_lt-mul (lit< tt)).1 (omega arith)) in
    numeral-from 10 48 (above ++ ((n % 10) ∷ [])) ∙ numeral-more 10 0 above (n % 10) ∙ omega arith

pub decimal-read : (n : ℕ) → n < 10 ^ 12 → field_number (decimal n) ≡ Some n
unfolding field_number
decimal-read n h = rw (made_of is_digit 1 12 (decimal n) (decimal-some n) (decimal-upto 11 n h) (decimal-digits n), decimal-value n (omega arith))
