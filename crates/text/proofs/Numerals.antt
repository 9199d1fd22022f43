-- Laws of numbers written by place value, for digits and names alike: a name's number tells the name. Assumes nothing.
use Prim.Native.Nat.{ℕ, ◌+◌, ◌-◌, ◌*◌, ◌/◌, ◌%◌, ◌^◌, ◌≤◌, ◌<◌}
use mathlib.Core.Path.{◌≡◌, refl, sym, ap, ◌∙◌}
use mathlib.Core.Bool.{Bool, true, false, ◌&&◌, ◌||◌}
use mathlib.Core.List.{List, [], ◌∷◌}
use lib.ListN.{length}
use lib.Arith.{digits_lt, digits_div, digits_mod}
use lib.Dec.{leb}
use borrow.Author.Tests.{leb-true}
use native.Mathlib.Decide.{dec_lt}
use native.Mathlib.Nat.{pow-zero, pow-succ', pow-le-pow_right, one-mul, mul-le-mul_right}
use native.Mathlib.Omega.{arith}
use Rattle.laws.proofs.Tests.{and_l, and_r}
use Rattle.text.specs.Text.{all, made, is_digit, is_name_byte, is_name, numeral, name_number}

-- a numeral with no zero digit is below the base to its length, a longer one is larger, and so the number tells the bytes
module _ (p : ℕ → Bool) (base naught : ℕ) (digit : (x : ℕ) → p x ≡ true → (naught < x) × (x - naught < base)) where
  numeral-below : (s : List ℕ) → all p s ≡ true → numeral base naught s < base ^ length s
  unfolding all numeral
  numeral-below [] h = rw (pow-zero base) (omega arith)
  numeral-below (x ∷ xs) h =
      rw (pow-succ' base (length xs)) (digits_lt (digit x (and_l (p x) (all p xs) h)).1 (numeral-below xs (and_r (p x) (all p xs) h)))

  numeral-above : (x : ℕ) (xs : List ℕ) → p x ≡ true → base ^ length xs ≤ numeral base naught (x ∷ xs)
  unfolding numeral
  numeral-above x xs h =
      let d = digit x h in
      let one : 1 * base ^ length xs ≤ (x - naught) * base ^ length xs = mul-le-mul_right (base ^ length xs) (omega arith) in
      omega (arith, one, one-mul (base ^ length xs))

  longer : (a b : List ℕ) → all p a ≡ true → all p b ≡ true → length a < length b → numeral base naught a < numeral base naught b
  unfolding all
  longer a [] ha hb l = absurd (omega arith)
  longer a (y ∷ ys) ha hb l =
      let t = and_l (p y) (all p ys) hb in
      let d = digit y t in
      let wide : base ^ length a ≤ base ^ length ys = pow-le-pow_right (omega arith) (omega arith) in
      omega (arith, numeral-below a ha, numeral-above y ys t)

  alike : (a b : List ℕ) → all p a ≡ true → all p b ≡ true → length a ≡ length b → numeral base naught a ≡ numeral base naught b → a ≡ b
  unfolding all numeral
  alike [] [] ha hb l e = refl
  alike [] (y ∷ ys) ha hb l e = absurd (omega arith)
  alike (x ∷ xs) [] ha hb l e = absurd (omega arith)
  alike (x ∷ xs) (y ∷ ys) ha hb l e =
      let n : length ys ≡ length xs = omega arith in
      let kx = numeral-below xs (and_r (p x) (all p xs) ha) in
      let ky : numeral base naught ys < base ^ length xs = rw (← n) (numeral-below ys (and_r (p y) (all p ys) hb)) in
      let f : (x - naught) * base ^ length xs + numeral base naught xs ≡ (y - naught) * base ^ length xs + numeral base naught ys = e ∙ rw n in
      let top : x - naught ≡ y - naught = sym (digits_div (x - naught) kx) ∙ ap (λ m. m / base ^ length xs) f ∙ digits_div (y - naught) ky in
      let low : numeral base naught xs ≡ numeral base naught ys = sym (digits_mod (x - naught) kx) ∙ ap (λ m. m % base ^ length xs) f ∙ digits_mod (y - naught) ky in
      let dx = digit x (and_l (p x) (all p xs) ha) in
      let dy = digit y (and_l (p y) (all p ys) hb) in
      let head : x ≡ y = omega arith in
      let tail = alike xs ys (and_r (p x) (all p xs) ha) (and_r (p y) (all p ys) hb) (omega arith) low in
      (λ i. head i ∷ tail i)

  numeral-inj : (a b : List ℕ) → all p a ≡ true → all p b ≡ true → numeral base naught a ≡ numeral base naught b → a ≡ b
  numeral-inj a b ha hb e = go (dec_lt (length a) (length b)) (dec_lt (length b) (length a))
    where
      go : Dec (length a < length b) → Dec (length b < length a) → a ≡ b
      go (yes l) d = absurd (omega (arith, longer a b ha hb l))
      go (no l) (yes m) = absurd (omega (arith, longer b a hb ha m))
      go (no l) (no m) = alike a b ha hb (omega arith) e

-- no byte of a name is 0, so a name's number tells the name
name-digit : (x : ℕ) → is_name_byte x ≡ true → (0 < x) × (x - 0 < 256)
name-digit x h = go (is_digit x) refl h
  where
    go : (t : Bool) → is_digit x ≡ t → (t || leb 65 x && leb x 90) ≡ true → (0 < x) × (x - 0 < 256)
    go true e h =
        let l = leb-true 48 x (and_l (leb 48 x) (leb x 57) e) in
        let m = leb-true x 57 (and_r (leb 48 x) (leb x 57) e) in
        (omega arith, omega arith)
    go false e h =
        let l = leb-true 65 x (and_l (leb 65 x) (leb x 90) h) in
        let m = leb-true x 90 (and_r (leb 65 x) (leb x 90) h) in
        (omega arith, omega arith)

module _ (least most : ℕ) where
  name-bytes : (s : List ℕ) → is_name least most s ≡ true → all is_name_byte s ≡ true
  unfolding made
  name-bytes s h = and_r (leb least (length s) && leb (length s) most) (all is_name_byte s) h

  pub name_below : (s : List ℕ) → is_name least most s ≡ true → name_number s < 256 ^ length s
  name_below s h = numeral-below is_name_byte 256 0 name-digit s (name-bytes s h)

  pub name-inj : (a b : List ℕ) → is_name least most a ≡ true → is_name least most b ≡ true → name_number a ≡ name_number b → a ≡ b
  name-inj a b ha hb = numeral-inj is_name_byte 256 0 name-digit a b (name-bytes a ha) (name-bytes b hb)

  pub name-zero : (s : List ℕ) → is_name least most s ≡ true → name_number s ≡ 0 → s ≡ []
  unfolding all numeral
  name-zero s h = numeral-inj is_name_byte 256 0 name-digit s [] (name-bytes s h) refl
