-- Zeros: lists of them, numbers joined bit by bit, and the test that every number is 0. Assumes nothing.
use Prim.Native.Nat.{ℕ, ◌+◌, ◌≤◌, ◌<◌}
use mathlib.Core.Path.{◌≡◌, refl, sym, ap, ap₂, ◌∙◌}
use mathlib.Core.Bool.{Bool, true, false, ◌&&◌, and-true, and_assoc}
use mathlib.Core.List.{List, [], ◌∷◌, ◌++◌, append-nil}
use native.Mathlib.Omega.{arith}
use lib.Dec.{eqb}
use Rattle.std.specs.List.{fold}
use lib.Bits.{bit_or}
use lib.ListN.{length, get_or, take, drop, take-append-drop, replicate-append-replicate}
use Rattle.laws.proofs.Tests.{or-zero}
use Rattle.laws.proofs.Lists.{from, ended}
use Rattle.tables.specs.Inner.Tables.{zeros, all_zero}

-- a list of zeros
pub zeros-add : (n m : ℕ) → zeros n ++ zeros m ≡ zeros (n + m)
unfolding zeros
zeros-add n m = replicate-append-replicate n m 0

module _ (s : List ℕ) (any i : ℕ) where
  pub zero-on : i < length s → (eqb any 0 && all_zero (drop i s)) ≡ (eqb (bit_or any (get_or s i 0)) 0 && all_zero (drop (i + 1) s))
  unfolding all_zero
  zero-on h = rw (from s i h, or-zero any (get_or s i 0)) (sym (and_assoc (eqb any 0) (eqb (get_or s i 0) 0) (all_zero (drop (i + 1) s))))

  pub zero-end : length s ≤ i → (eqb any 0 && all_zero (drop i s)) ≡ eqb any 0
  unfolding all_zero
  zero-end h = rw (ended s i h) (and-true (eqb any 0))

-- two lists are all 0 exactly if one after the other is
all_append : (a b : List ℕ) → all_zero (a ++ b) ≡ (all_zero a && all_zero b)
unfolding all_zero
all_append [] b = refl
all_append (x ∷ a) b = ap (λ (t : Bool). eqb x 0 && t) (all_append a b) ∙ sym (and_assoc (eqb x 0) (all_zero a) (all_zero b))

pub zero-parts : (n : ℕ) (s : List ℕ) → (all_zero (take n s) && all_zero (drop n s)) ≡ all_zero s
zero-parts n s = sym (all_append (take n s) (drop n s)) ∙ ap all_zero (take-append-drop n s)

-- numbers joined one after the other
pub fold-zero : (xs : List ℕ) (any : ℕ) → eqb (fold bit_or any xs) 0 ≡ (eqb any 0 && all_zero xs)
unfolding all_zero
fold-zero [] any = sym (and-true (eqb any 0))
fold-zero (x ∷ xs) any = fold-zero xs (bit_or any x) ∙ rw or-zero (and_assoc (eqb any 0) (eqb x 0) (all_zero xs))

-- numbers joined with others, place by place, are all 0 exactly if those and these are
unfoldable joined : List ℕ → List ℕ → List ℕ
joined [] ys = ys
joined (x ∷ xs) [] = x ∷ xs
joined (x ∷ xs) (y ∷ ys) = bit_or x y ∷ joined xs ys

crossed : (p q x y : Bool) → ((p && q) && (x && y)) ≡ ((p && x) && (q && y))
crossed true true x y = refl
crossed true false true y = refl
crossed true false false y = refl
crossed false q x y = refl

joined-zero : (xs ys rest : List ℕ) → all_zero (joined xs ys ++ rest) ≡ (all_zero xs && all_zero (ys ++ rest))
unfolding joined all_zero
joined-zero [] ys rest = refl
joined-zero (x ∷ xs) [] rest = all_append (x ∷ xs) rest
joined-zero (x ∷ xs) (y ∷ ys) rest =
    ap₂ (λ (p q : Bool). p && q) (or-zero x y) (joined-zero xs ys rest) ∙ crossed (eqb x 0) (eqb y 0) (all_zero xs) (all_zero (ys ++ rest))

-- eight numbers one by one
next-from : (s : List ℕ) (i j : ℕ) → j ≡ i + 1 → i < length s → drop i s ≡ get_or s i 0 ∷ drop j s
next-from s i j e h = from s i h ∙ ap (λ (n : ℕ). get_or s i 0 ∷ drop n s) (sym e)

abbrev eight_at : List ℕ → ℕ → List ℕ
eight_at s i =
    get_or s i 0 ∷ get_or s (i + 1) 0 ∷ get_or s (i + 2) 0 ∷ get_or s (i + 3) 0 ∷ get_or s (i + 4) 0 ∷ get_or s (i + 5) 0 ∷ get_or s (i + 6) 0 ∷ get_or s (i + 7) 0 ∷ []

eight-from : (s : List ℕ) (i : ℕ) → i + 7 < length s → drop i s ≡ eight_at s i ++ drop (i + 8) s
eight-from s i k =
    rw (next-from s i (i + 1) (omega arith) (omega arith), next-from s (i + 1) (i + 2) (omega arith) (omega arith), next-from s (i + 2) (i + 3) (omega arith) (omega arith), next-from s (i + 3) (i + 4) (omega arith) (omega arith), next-from s (i + 4) (i + 5) (omega arith) (omega arith), next-from s (i + 5) (i + 6) (omega arith) (omega arith), next-from s (i + 6) (i + 7) (omega arith) (omega arith), next-from s (i + 7) (i + 8) (omega arith) (omega arith))

eight-all : (s : List ℕ) → length s ≡ 8 → s ≡ eight_at s 0
eight-all s l = eight-from s 0 (omega arith) ∙ ap (λ (t : List ℕ). eight_at s 0 ++ t) (ended s 8 (omega arith)) ∙ append-nil (eight_at s 0)

-- eight variables, each of which joins every eighth number, and what is left of the numbers
unfoldable pub eight_left : ℕ → ℕ → ℕ → ℕ → ℕ → ℕ → ℕ → ℕ → List ℕ → Bool
eight_left a b c d e f g h rest = all_zero ((a ∷ b ∷ c ∷ d ∷ e ∷ f ∷ g ∷ h ∷ []) ++ rest)

pub eight-start : (s : List ℕ) → eight_left 0 0 0 0 0 0 0 0 s ≡ all_zero s
unfolding eight_left all_zero
eight-start s = refl

pub eight-end : (a b c d e f g h : ℕ) (rest : List ℕ)
    → eqb (fold bit_or (bit_or (bit_or (bit_or (bit_or (bit_or (bit_or (bit_or a b) c) d) e) f) g) h) rest) 0 ≡ eight_left a b c d e f g h rest
unfolding eight_left all_zero
eight-end a b c d e f g h rest = fold-zero rest _ ∙ simp (or-zero, and_assoc)

pub eight-on : (a b c d e f g h : ℕ) (s next : List ℕ) → length s ≡ 8 → eight_left a b c d e f g h (s ++ next)
    ≡ eight_left (bit_or a (get_or s 0 0)) (bit_or b (get_or s 1 0)) (bit_or c (get_or s 2 0)) (bit_or d (get_or s 3 0)) (bit_or e (get_or s 4 0)) (bit_or f (get_or s 5 0)) (bit_or g (get_or s 6 0)) (bit_or h (get_or s 7 0)) next
unfolding eight_left joined
eight-on a b c d e f g h s next l =
    let old = a ∷ b ∷ c ∷ d ∷ e ∷ f ∷ g ∷ h ∷ [] in
    all_append old (s ++ next) ∙ ap (λ (t : List ℕ). all_zero old && all_zero (t ++ next)) (eight-all s l) ∙ sym (joined-zero old (eight_at s 0) next)
