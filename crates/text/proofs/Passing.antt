-- What stands behind the bytes of a field, and a word that is compared where a field stands: whether the field holds it, and what is left behind it. Assumes nothing.
use Prim.Native.Nat.{ℕ, ◌+◌, ◌-◌, ◌≤◌, ◌<◌}
use mathlib.Core.Path.{◌≡◌, refl, sym, ap, ap₂, ◌∙◌}
use mathlib.Core.Bool.{Bool, true, false, ◌&&◌, false≢true, and_assoc, and-true}
use mathlib.Core.List.{List, [], ◌∷◌, ◌++◌}
use lib.ListN.{length, get_or, take, drop, length-drop, length-append, take-append-drop}
use lib.Dec.{eqb}
use lib.Seq.{drop-drop}
use borrow.Author.Tests.{eqb-true, eqb-false}
use native.Mathlib.Decide.{dec_lt}
use native.Mathlib.Omega.{arith}
use Rattle.laws.specs.Lists.{same}
use Rattle.laws.proofs.Lists.{same-eq, same_refl, same-short}
use Rattle.text.specs.Text.{fields, index_of}
use Rattle.text.proofs.Lists.{index_on, index-here, index-end, index-hit, index-past, index-le, first-field, other-fields, no-fields}
use Rattle.text.proofs.Taking.{field-size}

-- the first comma is the first byte where that is one, and where there is no byte
pub at-once : (more : List ℕ) → (0 < length more → get_or more 0 0 ≡ 44) → 0 ≡ index_of 44 more
unfolding index_of
at-once [] h = refl
at-once (x ∷ xs) h = sym (index-hit 44 x xs (h (omega arith)))

-- whether a comma stands at a place, by where the first one is from there on
module _ (s : List ℕ) (at : ℕ) where
  pub comma-there : 0 ≡ index_of 44 (drop at s) → at < length s → get_or s at 0 ≡ 44
  comma-there e h = go (eqb (get_or s at 0) 44) refl
    where
      go : (t : Bool) → eqb (get_or s at 0) 44 ≡ t → get_or s at 0 ≡ 44
      go true is = eqb-true (get_or s at 0) 44 is
      go false n = absurd (omega (arith, index_on 44 s at h (eqb-false (get_or s at 0) 44 n)))

  pub other-there : 0 < index_of 44 (drop at s) → (at < length s) × (get_or s at 0 ≡ 44 → ⊥)
  other-there h = go (dec_lt at (length s))
    where
      go : Dec (at < length s) → (at < length s) × (get_or s at 0 ≡ 44 → ⊥)
      go (yes k) = (k, λ e. omega (arith, index-here 44 s at k e))
      go (no k) = absurd (omega (arith, index-end 44 s at (omega arith)))

-- the fields behind the first are those behind the first of what begins at a place with no comma before it
pub same-others : (s more : List ℕ) (n : ℕ) → n ≤ length s → more ≡ drop n s → index_of 44 s ≡ n + index_of 44 more → drop 1 (fields more) ≡ drop 1 (fields s)
same-others s more n within behind end = go (dec_lt (index_of 44 more) (length more))
  where
    long : length more ≡ length s - n
    long = ap length behind ∙ length-drop n s

    go : Dec (index_of 44 more < length more) → drop 1 (fields more) ≡ drop 1 (fields s)
    go (yes h) =
        let there : drop (index_of 44 more + 1) more ≡ drop (index_of 44 s + 1) s = ap (drop (index_of 44 more + 1)) behind ∙ drop-drop (index_of 44 more + 1) n s ∙ ap (λ (k : ℕ). drop k s) (omega (arith, end)) in
        sym (other-fields more h) ∙ ap fields there ∙ other-fields s (omega (arith, long, end))
    go (no h) = no-fields more (omega arith) ∙ sym (no-fields s (omega (arith, long, end)))

-- two words whose bytes so far are alike or not: the next two bytes decide with them, and where none is left they alone
pub alike-on : (alike : Bool) (x y : ℕ) {a b : List ℕ} (xs ys : List ℕ) → a ≡ x ∷ xs → b ≡ y ∷ ys → (alike && same a b) ≡ ((alike && eqb x y) && same xs ys)
unfolding same
alike-on alike x y xs ys e f = rw (e, f) (sym (and_assoc alike (eqb x y) (same xs ys)))

pub alike-all : (alike : Bool) (a b : List ℕ) → length a ≡ 0 → length b ≡ 0 → (alike && same a b) ≡ alike
unfolding same
alike-all alike [] [] e f = and-true alike
alike-all alike (x ∷ xs) b e f = absurd (omega arith)
alike-all alike [] (y ∷ ys) e f = absurd (omega arith)

-- a word, and a line's first field
module _ (s w : List ℕ) where
  pub too-short : length s < length w → same (get_or (fields s) 0 []) w ≡ false
  too-short h = rw (first-field s) (same-short (take (index_of 44 s) s) w (λ e. omega (arith, field-size s, index-le 44 s)))

  -- a line that does not begin with the word has another first field
  pub not-begun : same (take (length w) s) w ≡ false → same (get_or (fields s) 0 []) w ≡ false
  not-begun off = rw (first-field s) (go (same (take (index_of 44 s) s) w) refl)
    where
      go : (t : Bool) → same (take (index_of 44 s) s) w ≡ t → t ≡ false
      go false e = refl
      go true e =
          let is : take (index_of 44 s) s ≡ w = same-eq (take (index_of 44 s) s) w e in
          let long : length w ≡ index_of 44 s = sym (ap length is) ∙ field-size s in
          absurd (false≢true (sym off ∙ ap (λ (l : List ℕ). same l w) (ap (λ (k : ℕ). take k s) long ∙ is) ∙ same_refl w))

  -- a line that begins with the word, which has no comma: its first field ends where what stands behind the word has its first comma
  module _ (plain : index_of 44 w ≡ length w) (more : List ℕ) (begins : same (take (length w) s) w ≡ true) (behind : more ≡ drop (length w) s) where
    begun : take (length w) s ≡ w
    begun = same-eq (take (length w) s) w begins

    whole : w ++ more ≡ s
    whole = ap₂ (λ (a b : List ℕ). a ++ b) (sym begun) behind ∙ take-append-drop (length w) s

    end : index_of 44 s ≡ length w + index_of 44 more
    end = ap (index_of 44) (sym whole) ∙ index-past 44 w more plain

    pub goes-on : 0 < index_of 44 more → same (get_or (fields s) 0 []) w ≡ false
    goes-on h =
        let longer : length (take (index_of 44 s) s) ≡ length w → ⊥ = λ e. omega (arith, field-size s, end) in
        rw (first-field s) (same-short (take (index_of 44 s) s) w longer)

    pub is-word : 0 ≡ index_of 44 more → same (get_or (fields s) 0 []) w ≡ true
    is-word h =
        let here : index_of 44 s ≡ length w = omega (arith, end) in
        first-same (first-field s ∙ ap (λ (k : ℕ). take k s) here ∙ begun)
      where
        first-same : get_or (fields s) 0 [] ≡ w → same (get_or (fields s) 0 []) w ≡ true
        first-same e = ap (λ (l : List ℕ). same l w) e ∙ same_refl w

    pub others : drop 1 (fields more) ≡ drop 1 (fields s)
    others = same-others s more (length w) (omega (arith, sym (ap length whole) ∙ length-append w more)) behind end

  -- a line in which the word's length has no end of a field behind it
  pub unended : index_of 44 w ≡ length w → (more : List ℕ) → more ≡ drop (length w) s → 0 < index_of 44 more → same (get_or (fields s) 0 []) w ≡ false
  unended plain more behind h = go (same (take (length w) s) w) refl
    where
      go : (t : Bool) → same (take (length w) s) w ≡ t → same (get_or (fields s) 0 []) w ≡ false
      go true begins = goes-on plain more begins behind h
      go false off = not-begun off
