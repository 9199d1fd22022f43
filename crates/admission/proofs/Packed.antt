-- Four counts in one number, tested at once by the highest bit of each byte. Assumes nothing.
use Prim.Native.Nat.{ℕ, zero, suc, ◌+◌, ◌*◌, ◌/◌, ◌%◌, ◌≤◌}
use mathlib.Core.Path.{◌≡◌, refl, ap, ap₂, ◌∙◌}
use mathlib.Core.Bool.{Bool, true, false, not, cond, ◌||◌}
use native.Mathlib.Omega.{arith}
use lib.Bits.{bit_and, and_block}
use lib.Dec.{eqb, ltb}
use borrow.Author.Tests.{ne_eqb}
use Rattle.admission.specs.Inner.Counting.{FewIn, over_in}

-- the highest bit of a byte
abbrev bit : Bool → ℕ
bit b = cond b 128 0

-- a count up to 7 with 0x79 more has it just if it is above 6
high : (x : ℕ) → x ≤ 7 → bit_and (x + 121) 128 ≡ bit (ltb 6 x)
high zero h = refl
high (suc zero) h = refl
high (suc (suc zero)) h = refl
high (suc (suc (suc zero))) h = refl
high (suc (suc (suc (suc zero)))) h = refl
high (suc (suc (suc (suc (suc zero))))) h = refl
high (suc (suc (suc (suc (suc (suc zero)))))) h = refl
high (suc (suc (suc (suc (suc (suc (suc zero))))))) h = refl
high (suc (suc (suc (suc (suc (suc (suc (suc n)))))))) h = absurd (omega arith)

-- four bytes
abbrev four : ℕ → ℕ → ℕ → ℕ → ℕ
four a b c d = ((d * 256 + c) * 256 + b) * 256 + a

module _ (a b c d : ℕ) (a-few : a ≤ 7) (b-few : b ≤ 7) (c-few : c ≤ 7) (d-few : d ≤ 7) where
  highs : bit_and (four (a + 121) (b + 121) (c + 121) (d + 121)) 2155905152 ≡ four (bit (ltb 6 a)) (bit (ltb 6 b)) (bit (ltb 6 c)) (bit (ltb 6 d))
  highs =
      let join : ℕ → ℕ → ℕ = λ x y. x * 256 + y in
      and_block 8 (((d + 121) * 256 + (c + 121)) * 256 + (b + 121)) 8421504 (a + 121) 128 (omega arith) (omega arith)
      ∙ ap₂ join
      (and_block 8 ((d + 121) * 256 + (c + 121)) 32896 (b + 121) 128 (omega arith) (omega arith)
      ∙ ap₂ join (and_block 8 (d + 121) 128 (c + 121) 128 (omega arith) (omega arith) ∙ ap₂ join (high d d-few) (high c c-few)) (high b b-few))
      (high a a-few)

any : (p q r s : Bool) → not (eqb (four (bit p) (bit q) (bit r) (bit s)) 0) ≡ (p || q || r || s)
any true q r s = ap not (ne_eqb (four 128 (bit q) (bit r) (bit s)) 0 (λ e. omega arith))
any false true r s = ap not (ne_eqb (four 0 128 (bit r) (bit s)) 0 (λ e. omega arith))
any false false true s = ap not (ne_eqb (four 0 0 128 (bit s)) 0 (λ e. omega arith))
any false false false true = refl
any false false false false = refl

pub over-at-once : (w : ℕ) → FewIn w → not (eqb (bit_and (w + 2038004089) 2155905152) 0) ≡ over_in w
over-at-once w few =
    let a = w % 256 in
    let b = w / 256 % 256 in
    let c = w / 65536 % 256 in
    let d = w / 16777216 in
    let parts : w + 2038004089 ≡ four (a + 121) (b + 121) (c + 121) (d + 121) = omega arith in
    ap (λ (n : ℕ). not (eqb n 0)) (ap (λ (n : ℕ). bit_and n 2155905152) parts ∙ highs a b c d few.0 few.1 few.2 few.3)
    ∙ any (ltb 6 a) (ltb 6 b) (ltb 6 c) (ltb 6 d)
