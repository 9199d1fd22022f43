-- Bytes below 128 in a number, told by the highest bits of all at once; the bytes of a name are such. Assumes nothing.
use Prim.Native.Nat.{ℕ, zero, suc, ◌+◌, ◌*◌, ◌/◌, ◌%◌, ◌^◌, ◌≤◌, ◌<◌}
use mathlib.Core.Path.{◌≡◌, refl, sym, ap₂, ◌∙◌}
use mathlib.Core.Bool.{Bool, true, false, not, ◌&&◌, ◌||◌, false≢true}
use mathlib.Core.List.{[], ◌∷◌}
use native.Mathlib.Decide.{dec_lt}
use native.Mathlib.Nat.{pow-zero, pow-suc, div-lt_iff_lt-mul}
use native.Mathlib.Omega.{arith}
use lib.Bits.{bit_and, and_block, and_zero_l, and_zero_r}
use lib.Dec.{eqb, leb, ltb, lit<}
use borrow.Author.Tests.{eqb-true, eq-eqb, lt-ltb, ltb-true, lt-leb}
use Rattle.laws.proofs.Tests.{and_l, and_r}
use Rattle.text.specs.Text.{all, is_name_byte}
use Rattle.text.specs.Digits.{digits_up_to}
use Rattle.text.proofs.Bytes.{all_join}
use Rattle.text.proofs.InBase.{digits_last}

-- a test that every number below a bound passes, which is computed
abbrev pub below : ℕ → (ℕ → Bool) → Bool
below zero test = true
below (suc n) test = test n && below n test

below_each : (n : ℕ) (test : ℕ → Bool) → below n test ≡ true → (x : ℕ) → x < n → test x ≡ true
below_each zero test h x l = absurd (omega arith)
below_each (suc n) test h x l = go (dec_lt x n) (below_each n test (and_r (test n) (below n test) h) x)
  where
    go : Dec (x < n) → (x < n → test x ≡ true) → test x ≡ true
    go (yes k) lower = lower k
    go (no k) lower = let e : x ≡ n = omega arith in rw e (and_l (test n) (below n test) h)

-- two tests that agree below a bound
abbrev pub agree : Bool → Bool → Bool
agree true b = b
agree false b = not b

pub table : (n : ℕ) (f g : ℕ → Bool) → below n (λ x. agree (f x) (g x)) ≡ true → (x : ℕ) → x < n → f x ≡ g x
table n f g h x l = go (f x) (g x) (below_each n (λ x. agree (f x) (g x)) h x l)
  where
    go : (a b : Bool) → agree a b ≡ true → a ≡ b
    go true b e = sym e
    go false true e = e
    go false false e = refl

-- the same byte so many times: that byte times this
unfoldable pub ones : ℕ → ℕ
ones zero = 0
ones (suc k) = ones k * 256 + 1

-- every one of a number's bytes, of which there are at most so many, is below 128
unfoldable pub Low : ℕ → ℕ → Type 0
Low zero n = n ≡ 0
Low (suc k) n = (n % 256 < 128) × Low k (n / 256)

pub low-most : (k n : ℕ) → Low k n → n ≤ 127 * ones k
unfolding Low ones
low-most zero n h = omega arith
low-most (suc k) n h = omega (arith, low-most k (n / 256) h.1, h.0)

-- a number none of whose bytes has the highest bit
high-told : (r : ℕ) → r < 256 → eqb (bit_and r 128) 0 ≡ ltb r 128
high-told r l = table 256 (λ x. eqb (bit_and x 128) 0) (λ x. ltb x 128) refl r l

highs : (K n : ℕ) → bit_and n (128 * ones (suc K)) ≡ bit_and (n / 256) (128 * ones K) * 256 + bit_and (n % 256) 128
unfolding ones
highs K n =
    let a : n ≡ n / 256 * 256 + n % 256 = omega arith in
    let b : 128 * (ones K * 256 + 1) ≡ (128 * ones K) * 256 + 128 = omega arith in
    ap₂ bit_and a b ∙ and_block 8 (n / 256) (128 * ones K) (n % 256) 128 (omega arith) (omega arith)

room : (K n : ℕ) → n < 256 ^ suc K → n / 256 < 256 ^ K
room K n h = (div-lt_iff_lt-mul (lit< tt)).1 (omega (arith, pow-suc 256 K))

pub low_told : (K n : ℕ) → n < 256 ^ K → bit_and n (128 * ones K) ≡ 0 → Low K n
unfolding Low
low_told zero n h e = omega (arith, pow-zero 256)
low_told (suc K) n h e =
    let parts = highs K n in
    let own : bit_and (n % 256) 128 ≡ 0 = omega arith in
    let above : bit_and (n / 256) (128 * ones K) ≡ 0 = omega arith in
    (ltb-true (n % 256) 128 (sym (high-told (n % 256) (omega arith)) ∙ eq-eqb _ _ own), low_told K (n / 256) (room K n h) above)

-- a name has none
byte_low : (r : ℕ) → is_name_byte r ≡ true → r < 128
byte_low r h = go (dec_lt r 128)
  where
    most : (a b c d : Bool) → ((a && b) || (c && d)) ≡ true → (b || d) ≡ true
    most true true c d e = refl
    most true false true d e = e
    most true false false d e = absurd (false≢true e)
    most false true c d e = refl
    most false false true d e = e
    most false false false d e = absurd (false≢true e)

    go : Dec (r < 128) → r < 128
    go (yes l) = l
    go (no l) =
        let m = most (leb 48 r) (leb r 57) (leb 65 r) (leb r 90) h in
        absurd (false≢true (sym (ap₂ (λ (a b : Bool). a || b) (lt-leb r 57 (omega arith)) (lt-leb r 90 (omega arith))) ∙ m))

pub name-low : (m n : ℕ) → n < 256 ^ m → all is_name_byte (digits_up_to 256 m n) ≡ true → bit_and n (128 * ones m) ≡ 0
unfolding ones all
name-low zero n h e = and_zero_r n
name-low (suc m) n h e = go (dec_lt 0 n) (name-low m (n / 256) (room m n h))
  where
    go : Dec (0 < n) → (all is_name_byte (digits_up_to 256 m (n / 256)) ≡ true → bit_and (n / 256) (128 * ones m) ≡ 0) → bit_and n (128 * ones (suc m)) ≡ 0
    go (no k) lower = let none : n ≡ 0 = omega arith in rw none (and_zero_l (128 * ones (suc m)))
    go (yes k) lower =
        let above = digits_up_to 256 m (n / 256) in
        let both : (all is_name_byte above && (is_name_byte (n % 256) && true)) ≡ true =
        sym (all_join is_name_byte above ((n % 256) ∷ [])) ∙ (rw (digits_last 256 m n k) at e) in
        let own = byte_low (n % 256) (and_l (is_name_byte (n % 256)) true (and_r (all is_name_byte above) _ both)) in
        let rest = lower (and_l (all is_name_byte above) _ both) in
        let high : bit_and (n % 256) 128 ≡ 0 = eqb-true (bit_and (n % 256) 128) 0 (high-told (n % 256) (omega arith) ∙ lt-ltb (n % 256) 128 own) in
        highs m n ∙ omega arith
