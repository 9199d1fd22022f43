-- The bytes of a number tested at once, by the highest bit of each: whether those of a name are digits and capitals. Assumes nothing.
use Prim.Native.Nat.{ℕ, zero, suc, ◌+◌, ◌*◌, ◌-◌, ◌/◌, ◌%◌, ◌^◌, ◌≤◌, ◌<◌}
use mathlib.Core.Path.{◌≡◌, refl, sym, ap, ap₂, ◌∙◌}
use mathlib.Core.Bool.{Bool, true, false, ◌&&◌, ◌||◌, and-true, and-false, false≢true}
use mathlib.Core.List.{[], ◌∷◌, ◌++◌}
use native.Mathlib.Decide.{dec_lt}
use native.Mathlib.Omega.{arith}
use lib.Bits.{bit_and, bit_or, and_block, or_block, and_lt, or_lt, and_zero_r}
use lib.ListN.{length, length-append}
use lib.Dec.{eqb, leb, ltb}
use borrow.Author.Tests.{eqb-true, eq-eqb, ltb-true, ltb-false, lt-leb, le-leb}
use Rattle.laws.proofs.Tests.{and_l, and_r, and_i, same_test}
use Rattle.text.specs.Text.{all, made, is_name_byte}
use Rattle.text.specs.Digits.{digits_up_to, name_bytes}
use Rattle.given.specs.Names.{is_name_number}
use Rattle.text.proofs.Bytes.{all_join}
use Rattle.text.proofs.InBase.{digits_last, digits-none}
use Rattle.given.proofs.Low.{table, ones, Low, low-most, low_told, name-low}

-- the highest bit of a byte that is a digit or a capital: at least 48 and at most 57, or at least 65 and at most 90
abbrev mark : ℕ → ℕ
mark r = bit_and (bit_or (bit_and (r + 80) (185 - r)) (bit_and (r + 63) (218 - r))) 128

mark-told : (r : ℕ) → r < 128 → eqb (mark r) 128 ≡ is_name_byte r
mark-told r l = table 128 (λ x. eqb (mark x) 128) is_name_byte refl r l

-- the marks of the lowest k bytes of a number of K bytes
abbrev pub marks : ℕ → ℕ → ℕ → ℕ
marks K k n = bit_and (bit_or (bit_and (n + 80 * ones K) (185 * ones K - n)) (bit_and (n + 63 * ones K) (218 * ones K - n))) (128 * ones k)

-- one byte and those above it
module _ (K k n : ℕ) (low : Low (suc K) n) where
  abbrev q : ℕ
  q = n / 256

  abbrev r : ℕ
  r = n % 256

  small : r < 128
  unfolding Low
  small = low.0

  upper : q ≤ 127 * ones K
  unfolding Low
  upper = low-most K q low.1

  marks-step : marks (suc K) (suc k) n ≡ marks K k q * 256 + mark r
  unfolding ones
  marks-step =
      let s = small in
      let u = upper in
      let a : n + 80 * (ones K * 256 + 1) ≡ (q + 80 * ones K) * 256 + (r + 80) = omega arith in
      let b : 185 * (ones K * 256 + 1) - n ≡ (185 * ones K - q) * 256 + (185 - r) = omega arith in
      let c : n + 63 * (ones K * 256 + 1) ≡ (q + 63 * ones K) * 256 + (r + 63) = omega arith in
      let d : 218 * (ones K * 256 + 1) - n ≡ (218 * ones K - q) * 256 + (218 - r) = omega arith in
      let e : 128 * (ones k * 256 + 1) ≡ (128 * ones k) * 256 + 128 = omega arith in
      let digit = and_block 8 (q + 80 * ones K) (185 * ones K - q) (r + 80) (185 - r) (omega arith) (omega arith) in
      let capital = and_block 8 (q + 63 * ones K) (218 * ones K - q) (r + 63) (218 - r) (omega arith) (omega arith) in
      let digit_low = and_lt 8 (r + 80) (185 - r) (omega arith) (omega arith) in
      let capital-low = and_lt 8 (r + 63) (218 - r) (omega arith) (omega arith) in
      (λ i. bit_and (bit_or (bit_and (a i) (b i)) (bit_and (c i) (d i))) (e i))
      ∙ (λ i. bit_and (bit_or (digit i) (capital i)) ((128 * ones k) * 256 + 128))
      ∙ ap (λ (x : ℕ). bit_and x ((128 * ones k) * 256 + 128))
      (or_block 8 (bit_and (q + 80 * ones K) (185 * ones K - q)) (bit_and (q + 63 * ones K) (218 * ones K - q)) (bit_and (r + 80) (185 - r)) (bit_and (r + 63) (218 - r)) digit_low capital-low)
      ∙ and_block 8 (bit_or (bit_and (q + 80 * ones K) (185 * ones K - q)) (bit_and (q + 63 * ones K) (218 * ones K - q))) (128 * ones k)
      (bit_or (bit_and (r + 80) (185 - r)) (bit_and (r + 63) (218 - r))) 128
      (or_lt 8 (bit_and (r + 80) (185 - r)) (bit_and (r + 63) (218 - r)) digit_low capital-low) (omega arith)

  mark-low : mark r < 256
  mark-low =
      let s = small in
      and_lt 8 (bit_or (bit_and (r + 80) (185 - r)) (bit_and (r + 63) (218 - r))) 128
      (or_lt 8 (bit_and (r + 80) (185 - r)) (bit_and (r + 63) (218 - r)) (and_lt 8 (r + 80) (185 - r) (omega arith) (omega arith)) (and_lt 8 (r + 63) (218 - r) (omega arith) (omega arith)))
      (omega arith)

-- two numbers by their last bytes and what is above
parts_same : (a b x y : ℕ) → x < 256 → y < 256 → eqb (a * 256 + x) (b * 256 + y) ≡ (eqb a b && eqb x y)
parts_same a b x y l m =
    same_test (eqb (a * 256 + x) (b * 256 + y)) (eqb a b && eqb x y)
    (λ h. let e = eqb-true (a * 256 + x) (b * 256 + y) h in and_i (eq-eqb a b (omega arith)) (eq-eqb x y (omega arith)))
    (λ h. let e = eqb-true a b (and_l (eqb a b) (eqb x y) h) in
    let f = eqb-true x y (and_r (eqb a b) (eqb x y) h) in
    eq-eqb (a * 256 + x) (b * 256 + y) (omega arith))

-- the marks are all there just if each byte of the name is a digit or a capital
abbrev pub marked : ℕ → ℕ → ℕ → Bool
marked K k n = eqb (marks K k n) (128 * ones k)

marked-none : (K n : ℕ) → marked K 0 n ≡ true
unfolding ones
marked-none K n = rw (and_zero_r (bit_or (bit_and (n + 80 * ones K) (185 * ones K - n)) (bit_and (n + 63 * ones K) (218 * ones K - n))))

digits-zero : (n : ℕ) → digits_up_to 256 0 n ≡ []
unfolding digits_up_to
digits-zero n = refl

pub marked_all : (K m n : ℕ) → m ≤ K → Low K n → marked K (length (digits_up_to 256 m n)) n ≡ all is_name_byte (digits_up_to 256 m n)
unfolding all ones Low
marked_all K zero n h low = rw (digits-zero n) (marked-none K n)
marked_all zero (suc m) n h low = absurd (omega arith)
marked_all (suc K) (suc m) n h low = go (dec_lt 0 n) (marked_all K m (n / 256) (omega arith) low.1)
  where
    go : Dec (0 < n) → marked K (length (digits_up_to 256 m (n / 256))) (n / 256) ≡ all is_name_byte (digits_up_to 256 m (n / 256)) → marked (suc K) (length (digits_up_to 256 (suc m) n)) n ≡ all is_name_byte (digits_up_to 256 (suc m) n)
    go (no e) rest = let none : n ≡ 0 = omega arith in rw (none, digits-none 256 (suc m)) (marked-none (suc K) 0)
    go (yes e) rest =
        let above = digits_up_to 256 m (n / 256) in
        let is = digits_last 256 m n e in
        let long : length (above ++ ((n % 256) ∷ [])) ≡ suc (length above) = rw length-append (omega arith) in
        let target : 128 * (ones (length above) * 256 + 1) ≡ (128 * ones (length above)) * 256 + 128 = omega arith in
        rw (is, long, all_join is_name_byte above ((n % 256) ∷ []), and-true)
        (ap₂ (λ (a b : ℕ). eqb a b) (marks-step K (length above) n low) target
        ∙ parts_same (marks K (length above) (n / 256)) (128 * ones (length above)) (mark (n % 256)) 128 (mark-low K 0 n low) (omega arith)
        ∙ ap₂ (λ (a b : Bool). a && b) rest (mark-told (n % 256) low.0))

-- the number of a name by its eight bytes, as code tests them
module _ (n : ℕ) (fits : n < 18_446_744_073_709_551_616) where
  pub name-high : (bit_and n 9_259_542_123_273_814_144 ≡ 0 → ⊥) → false ≡ all is_name_byte (name_bytes n)
  unfolding name_bytes ones
  name-high h = go (all is_name_byte (digits_up_to 256 8 n)) refl
    where
      go : (b : Bool) → all is_name_byte (digits_up_to 256 8 n) ≡ b → false ≡ b
      go true e = absurd (h (name-low 8 n fits e))
      go false e = refl

  module _ (h : bit_and n 9_259_542_123_273_814_144 ≡ 0) where
    low : Low 8 n
    unfolding ones
    low = low_told 8 n fits h

    pub name-most : n ≤ 9_187_201_950_435_737_471
    unfolding ones
    name-most = low-most 8 n low

    pub name-marked : (size all-highs : ℕ) → size ≡ length (name_bytes n) → all-highs ≡ 128 * ones size
        → eqb (bit_and (bit_or (bit_and (n + 5_787_213_827_046_133_840) (13_382_931_975_044_184_505 - n)) (bit_and (n + 4_557_430_888_798_830_399) (15_770_157_678_700_714_714 - n))) all-highs) all-highs
        ≡ all is_name_byte (name_bytes n)
    unfolding ones name_bytes
    name-marked size all-highs e f = rw (f, e) (marked_all 8 8 n (omega arith) low)

-- the highest bits of the lowest bytes, of which there are fewer than eight
eight : (P : ℕ → Type 0) → P 0 → P 1 → P 2 → P 3 → P 4 → P 5 → P 6 → P 7 → (n : ℕ) → n < 8 → P n
eight P a b c d e f g h zero l = a
eight P a b c d e f g h (suc zero) l = b
eight P a b c d e f g h (suc (suc zero)) l = c
eight P a b c d e f g h (suc (suc (suc zero))) l = d
eight P a b c d e f g h (suc (suc (suc (suc zero)))) l = e
eight P a b c d e f g h (suc (suc (suc (suc (suc zero))))) l = f
eight P a b c d e f g h (suc (suc (suc (suc (suc (suc zero)))))) l = g
eight P a b c d e f g h (suc (suc (suc (suc (suc (suc (suc zero))))))) l = h
eight P a b c d e f g h (suc (suc (suc (suc (suc (suc (suc (suc n)))))))) l = absurd (omega arith)

abbrev shifted : ℕ → ℕ
shifted size = (1 * 2 ^ (size * 8)) % 18_446_744_073_709_551_616

pub shifted-some : (size : ℕ) → size < 8 → 1 ≤ shifted size
shifted-some = eight (λ size. 1 ≤ shifted size) (omega arith) (omega arith) (omega arith) (omega arith) (omega arith) (omega arith) (omega arith) (omega arith)

pub low-highs : (size : ℕ) → size < 8 → bit_and (shifted size - 1) 9_259_542_123_273_814_144 ≡ 128 * ones size
unfolding ones
low-highs = eight (λ size. bit_and (shifted size - 1) 9_259_542_123_273_814_144 ≡ 128 * ones size) refl refl refl refl refl refl refl refl

-- its size decides, or its bytes do
module _ (least most n size : ℕ) (is : size ≡ length (name_bytes n)) where
  sized : is_name_number least most n ≡ (leb least size && leb size most && all is_name_byte (name_bytes n))
  unfolding is_name_number made
  sized = rw is

  pub name_out : (ltb size least || ltb most size) ≡ true → false ≡ is_name_number least most n
  name_out h = go (ltb size least) refl h
    where
      go : (a : Bool) → ltb size least ≡ a → (a || ltb most size) ≡ true → false ≡ is_name_number least most n
      go true e k = sym (sized ∙ rw (lt-leb least size (ltb-true size least e)))
      go false e k = sym (sized ∙ rw (lt-leb size most (ltb-true most size k), and-false))

  pub name_in : (ltb size least || ltb most size) ≡ false → (b : Bool) → b ≡ all is_name_byte (name_bytes n) → b ≡ is_name_number least most n
  name_in h b f = go (ltb size least) refl h
    where
      go : (a : Bool) → ltb size least ≡ a → (a || ltb most size) ≡ false → b ≡ is_name_number least most n
      go true e k = absurd (false≢true (sym k))
      go false e k = f ∙ sym (sized ∙ rw (le-leb least size (ltb-false size least e), le-leb size most (ltb-false most size k)))

-- few bytes are fewer than eight
pub size_few : (least most size : ℕ) → (ltb size least || ltb most size) ≡ false → most < 8 → size < 8
size_few least most size h l = go (ltb size least) h
  where
    go : (a : Bool) → (a || ltb most size) ≡ false → size < 8
    go true k = absurd (false≢true (sym k))
    go false k = omega (arith, ltb-false most size k)
