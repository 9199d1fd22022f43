-- The bytes of decimal numbers and those of names are digits, and eight bytes of a name fit 64 bits. Assumes nothing.
use Rattle.std.specs.Prelude.{ℕ, ◌≤◌, ◌≡◌, Bool, true, false, ◌&&◌, ◌||◌, ◌^◌, leb}
use mathlib.Core.Path.{refl}
use borrow.Author.Tests.{leb-true}
use native.Mathlib.Nat.{pow-le-pow_right}
use native.Mathlib.Omega.{arith}
use Rattle.laws.proofs.Tests.{and_l, and_r}
use Rattle.text.specs.Text.{is_digit, is_name_byte}
use Rattle.text.specs.Inner.Taking.{AreDigits}

-- a decimal digit is 48 to 57, and a byte of a name 48 to 90
decimal-range : (x : ℕ) → is_digit x ≡ true → (48 ≤ x) × (x ≤ 57)
decimal-range x h = (leb-true 48 x (and_l (leb 48 x) (leb x 57) h), leb-true x 57 (and_r (leb 48 x) (leb x 57) h))

pub name-range : (x : ℕ) → is_name_byte x ≡ true → (48 ≤ x) × (x ≤ 90)
name-range x h = go (is_digit x) refl h
  where
    go : (t : Bool) → is_digit x ≡ t → (t || leb 65 x && leb x 90) ≡ true → (48 ≤ x) × (x ≤ 90)
    go true e h = let d = decimal-range x e in (omega arith, omega arith)
    go false e h =
        let l = leb-true 65 x (and_l (leb 65 x) (leb x 90) h) in
        let m = leb-true x 90 (and_r (leb 65 x) (leb x 90) h) in
        (omega arith, omega arith)

pub decimal-digits : AreDigits is_digit 10 48
decimal-digits = record {
  low = λ x h. (decimal-range x h).0;
  high = λ x h. let d = decimal-range x h in omega arith;
  some = omega arith;
  byte = omega arith;
  comma = refl;
}

pub name-digits : AreDigits is_name_byte 256 0
name-digits = record {
  low = λ x h. omega arith;
  high = λ x h. let d = name-range x h in omega arith;
  some = omega arith;
  byte = omega arith;
  comma = refl;
}

-- a name of at most eight bytes is held in 64 bits
pub name-fits : (most : ℕ) → most ≤ 8 → 256 ^ most ≤ 2 ^ 64
name-fits most h = pow-le-pow_right (omega arith) h
