-- The name that a number holds: its bytes are read as that number, and a name's number holds that name. Assumes nothing.
use Prim.Native.Nat.{ℕ, ◌≤◌, ◌<◌}
use mathlib.Core.Path.{◌≡◌, ap}
use mathlib.Core.Bool.{true}
use lib.ListN.{length}
use lib.Dec.{lit<}
use native.Mathlib.Decide.{dec_lt}
use native.Mathlib.Omega.{arith}
use Rattle.text.specs.Text.{is_name_byte, name_number, name_of}
use Rattle.std.specs.Prelude.{Some}
use Rattle.text.specs.Digits.{digits_up_to, name_bytes}
use Rattle.given.specs.Names.{is_name_number}
use Rattle.text.proofs.Bytes.{made_of, made-least, made-most, made_all}
use Rattle.text.proofs.InBase.{digits-few, digits_number, digits-room}

-- the bytes of a number that holds a name are read as that number; one of at least a byte is not 0
pub name-few : (n : ℕ) → length (name_bytes n) ≤ 8
unfolding name_bytes
name-few n = digits-few 256 (lit< tt) 8 n

module _ (least most n : ℕ) (h : is_name_number least most n ≡ true) where
  pub name-number : most < 8 → name_number (name_bytes n) ≡ n
  unfolding is_name_number name_bytes
  name-number k =
      digits_number 256 (lit< tt) 8 n (digits-room 256 (lit< tt) 8 n (omega (arith, made-most is_name_byte least most (name_bytes n) h)))

  pub name-read : most < 8 → name_of least most (name_bytes n) ≡ Some n
  unfolding is_name_number name_of
  name-read k = rw (h, name-number k)

  pub name-any : is_name_number 0 most n ≡ true
  unfolding is_name_number
  name-any =
      made_of is_name_byte 0 most (name_bytes n) (omega arith) (made-most is_name_byte least most (name_bytes n) h) (made_all is_name_byte least most (name_bytes n) h)

  pub name-some : 0 < least → 0 < n
  unfolding is_name_number name_bytes digits_up_to
  name-some k = go (dec_lt 0 n)
    where
      go : Dec (0 < n) → 0 < n
      go (yes e) = e
      go (no e) =
          let nothing : n ≡ 0 = omega arith in
          absurd (omega (arith, made-least is_name_byte least most (name_bytes n) h, ap (λ m. length (name_bytes m)) nothing))
