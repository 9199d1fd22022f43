-- A number in bytes, of which the last eight are a word of their own. Assumes nothing.
use mathlib.Core.Path.{◌≡◌, sym, ap, ap₂, ◌∙◌, subst}
use mathlib.Core.List.{List, [], ◌∷◌, ◌++◌, append-nil}
use Prim.Native.Nat.{ℕ, zero, suc, ◌+◌, ◌-◌, ◌*◌, ◌/◌, ◌%◌, ◌^◌, ◌≤◌, ◌<◌}
use native.Mathlib.Omega.{arith}
use lib.ListN.{length, take, drop, length-append, length-drop, take-append-drop, drop_of_length-le}
use lib.Seq.{length-take-le, take-add, take_at, take-append-le}
use borrow.Rule.Slice.PartMut.{put_mid, Post-is}
use lib.Pow.{shr_lt, shr-shr, high}
use Rattle.bits.specs.Fields.{total, packed, unpacked, eights, Fit}
use Rattle.bits.proofs.Packing.{packed_lt, packed-append, unpacked-append, eights-append, total-eights, length-eights, length-unpacked}

-- bytes are the number of their first ones above that of the last eight

pub halves : (s : List ℕ) (k : ℕ) → k + 8 ≡ length s
    → packed (eights (length (take k s))) (take k s) * 2 ^ 64 + packed (eights (length (drop k s))) (drop k s) ≡ packed (eights (length s)) s
halves s k e =
    let a = take k s in
    let d = drop k s in
    let eight : length d ≡ 8 = length-drop k s ∙ omega arith in
    let bits : total (eights (length d)) ≡ 64 = total-eights (length d) ∙ omega arith in
    let joined : a ++ d ≡ s = take-append-drop k s in
    ap (λ (b : ℕ). packed (eights (length a)) a * 2 ^ b + packed (eights (length d)) d) (sym bits)
    ∙ sym (packed-append (eights (length a)) a (eights (length d)) d (length-eights (length a)))
    ∙ ap (λ (ws : List ℕ). packed ws (a ++ d)) (eights-append (length a) (length d) ∙ ap eights (sym (length-append a d)))
    ∙ ap (λ (xs : List ℕ). packed (eights (length xs)) xs) joined

-- a part of bytes are bytes
bytes_take : (n : ℕ) (s : List ℕ) → Fit (eights (length s)) s → Fit (eights (length (take n s))) (take n s)
unfolding Fit eights
bytes_take zero s f = tt
bytes_take (suc n) [] f = tt
bytes_take (suc n) (b ∷ s) f = (f.0, bytes_take n s f.1)

bytes_drop : (n : ℕ) (s : List ℕ) → Fit (eights (length s)) s → Fit (eights (length (drop n s))) (drop n s)
unfolding Fit eights
bytes_drop zero s f = f
bytes_drop (suc n) [] f = tt
bytes_drop (suc n) (b ∷ s) f = bytes_drop n s f.1

-- the number of the first k bytes stands on top of the word of the first eight
pub first-bytes : (s : List ℕ) (k : ℕ) → k + 8 ≡ length s → k ≤ 8 → Fit (eights (length s)) s
    → packed (eights 8) (take 8 s) / 2 ^ (64 - k * 8) ≡ packed (eights (length (take k s))) (take k s)
first-bytes s k e few fit =
    let a = take k s in
    let d = take (8 - k) (drop k s) in
    let la : length a ≡ k = length-take-le k s (omega arith) in
    let ld : length d ≡ 8 - k = length-take-le (8 - k) (drop k s) (omega (arith, length-drop k s)) in
    let bits : total (eights (length d)) ≡ 64 - k * 8 = total-eights (length d) ∙ omega (arith, ld) in
    let all : 8 ≡ length a + length d = omega arith in
    let joined : take 8 s ≡ a ++ d = ap (λ (n : ℕ). take n s) (let f : 8 ≡ k + (8 - k) = omega arith in f) ∙ take-add k (8 - k) s in
    let whole : packed (eights 8) (take 8 s) ≡ packed (eights (length a)) a * 2 ^ (64 - k * 8) + packed (eights (length d)) d =
    ap₂ packed (ap eights all ∙ sym (eights-append (length a) (length d))) joined
    ∙ packed-append (eights (length a)) a (eights (length d)) d (length-eights (length a))
    ∙ ap (λ (b : ℕ). packed (eights (length a)) a * 2 ^ b + packed (eights (length d)) d) bits
    in
    ap (λ (x : ℕ). x / 2 ^ (64 - k * 8)) whole
    ∙ high (packed (eights (length a)) a) (64 - k * 8)
    (subst (λ (b : ℕ). packed (eights (length d)) d < 2 ^ b) bits (packed_lt (eights (length d)) d (bytes_take (8 - k) (drop k s) (bytes_drop k s fit))))

-- the bytes of a number are those above its last word, and those of that word
module _ (n k : ℕ) (small : n < 2 ^ ((k + 8) * 8)) where
  pub both_bytes : unpacked (eights (k + 8)) n ≡ unpacked (eights k) (n / 2 ^ 64) ++ unpacked (eights 8) (n % 2 ^ 64)
  both_bytes =
      let bound : n < 2 ^ total (eights k ++ eights 8) = subst (λ (b : ℕ). n < 2 ^ b) (sym (ap total (eights-append k 8) ∙ total-eights (k + 8))) small in
      ap (λ (ws : List ℕ). unpacked ws n) (sym (eights-append k 8))
      ∙ unpacked-append (eights k) (eights 8) n bound
      ∙ ap (λ (b : ℕ). unpacked (eights k) (n / 2 ^ b) ++ unpacked (eights 8) (n % 2 ^ b)) (total-eights 8)

  pub front_lt : n / 2 ^ (k * 8) < 2 ^ 64
  front_lt = shr_lt 64 (k * 8) (subst (λ (b : ℕ). n < 2 ^ b) (let e : (k + 8) * 8 ≡ 64 + k * 8 = omega arith in e) small)

  -- and the first k of them are the first of what stands above the lowest k
  pub front_bytes : k ≤ 8 → take k (unpacked (eights 8) (n / 2 ^ (k * 8))) ≡ unpacked (eights k) (n / 2 ^ 64)
  front_bytes few =
      let m = 8 - k in
      let x = n / 2 ^ (k * 8) in
      let sum : eights 8 ≡ eights k ++ eights m = ap eights (let f : 8 ≡ k + m = omega arith in f) ∙ sym (eights-append k m) in
      let bound : x < 2 ^ total (eights k ++ eights m) = subst (λ (b : ℕ). x < 2 ^ b) (sym (ap total (sym sum) ∙ total-eights 8)) front_lt in
      let top : x / 2 ^ total (eights m) ≡ n / 2 ^ 64 =
      ap (λ (b : ℕ). x / 2 ^ b) (total-eights m) ∙ shr-shr n (k * 8) (m * 8) ∙ ap (λ (b : ℕ). n / 2 ^ b) (let f : k * 8 + m * 8 ≡ 64 = omega arith in f)
      in
      ap (λ (ws : List ℕ). take k (unpacked ws x)) sum ∙ ap (take k) (unpacked-append (eights k) (eights m) x bound)
      ∙ take_at _ _ k (length-unpacked (eights k) _ ∙ length-eights k) ∙ ap (unpacked (eights k)) top

-- bytes whose first eight were written over by a, and then their last eight by b
pub over : (o a b : List ℕ) → 8 ≤ length o → length o ≤ 16 → length a ≡ 8
    → let k = length o - 8 in put_mid k (length (a ++ drop 8 o) - k) (a ++ drop 8 o) b ≡ take k a ++ b
over o a b least most la =
    let k = length o - 8 in
    let xs = a ++ drop 8 o in
    let n : length xs ≡ length o = omega (arith, length-append a (drop 8 o), length-drop 8 o) in
    ap₂ (λ (x y : List ℕ). x ++ (b ++ y)) (take-append-le k a (drop 8 o) (omega arith))
    (Post-is k (length xs) xs (omega arith) ∙ drop_of_length-le xs {i = length xs} (omega arith))
    ∙ ap (λ (y : List ℕ). take k a ++ y) (append-nil b)
