-- Eight bytes and the word that they make, the first byte on top. Assumes nothing.
use mathlib.Core.Path.{◌≡◌, refl, sym, ap, ap₂, ◌∙◌}
use mathlib.Core.List.{List, [], ◌∷◌}
use Prim.Native.Nat.{ℕ, zero, suc, ◌+◌, ◌*◌, ◌/◌, ◌%◌, ◌^◌, ◌<◌}
use native.Mathlib.Nat.{mod-eq_of_lt, pow-suc, div-one}
use native.Mathlib.Omega.{arith}
use lib.ListN.{length}
use lib.Pow.{pow-add, field, mod-mod-pow}
use Rattle.std.specs.Int.{w64, byte_at, bytes_high_first, to_be_bytes, from_be_bytes}
use Rattle.bits.specs.Fields.{total, packed, unpacked, eights}
use Rattle.bits.proofs.Packing.{listed_from, listed, total-eights}

-- the word of eight bytes is what the library's method gives
of_eight : (a b c d e f g h : ℕ) → from_be_bytes w64 (a ∷ b ∷ c ∷ d ∷ e ∷ f ∷ g ∷ h ∷ []) ≡ packed (eights 8) (a ∷ b ∷ c ∷ d ∷ e ∷ f ∷ g ∷ h ∷ [])
unfolding packed total eights
of_eight a b c d e f g h = omega arith

pub word_of : (s : List ℕ) → length s ≡ 8 → from_be_bytes w64 (listed_from 0 8 s) ≡ packed (eights 8) s
word_of s l = of_eight _ _ _ _ _ _ _ _ ∙ ap (packed (eights 8)) (listed s 0 8 l)

-- the lowest k bytes of a number, the highest of them first
byte_base : (k : ℕ) → 256 ^ k ≡ 2 ^ (k * 8)
byte_base zero = refl
byte_base (suc k) =
    let e : suc k * 8 ≡ k * 8 + 8 = omega arith in
    rw (e, pow-add 2 (k * 8) 8, pow-suc 256 k, byte_base k) refl

byte_is : (k n : ℕ) → n / 2 ^ (k * 8) % 256 ≡ byte_at k n
byte_is zero n = ap (λ (x : ℕ). x % 256) (div-one n)
byte_is (suc k) n = ap (λ (x : ℕ). n / x % 256) (sym (byte_base (suc k)))

high_first : (k n : ℕ) → unpacked (eights k) (n % 2 ^ (k * 8)) ≡ bytes_high_first k n
unfolding unpacked eights
high_first zero n = refl
high_first (suc k) n =
    let t : total (eights k) ≡ k * 8 = total-eights k in
    let e : suc k * 8 ≡ 8 + k * 8 = omega arith in
    ap₂ (λ (m b : ℕ). (n % 2 ^ m / 2 ^ b) ∷ unpacked (eights k) (n % 2 ^ m % 2 ^ b)) e t
    ∙ ap₂ (λ (x : ℕ) (xs : List ℕ). x ∷ xs) (field n 8 (k * 8) ∙ byte_is k n) (ap (unpacked (eights k)) (mod-mod-pow n 8 (k * 8)) ∙ high_first k n)

pub bytes_of_word : (n : ℕ) → n < 2 ^ 64 → to_be_bytes w64 n ≡ unpacked (eights 8) n
bytes_of_word n h = sym (high_first 8 n) ∙ ap (unpacked (eights 8)) (mod-eq_of_lt h)
