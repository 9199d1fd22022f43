-- Laws of lists of bytes: places, the pieces of a text, and the fields of a line. Assumes nothing.
use Prim.Native.Nat.{ℕ, zero, suc, ◌+◌, ◌-◌, ◌*◌, ◌≤◌, ◌<◌}
use mathlib.Core.Path.{◌≡◌, refl, sym, ap, ◌∙◌}
use mathlib.Core.Bool.{Bool, true, false, cond, ◌&&◌, ◌||◌, false≢true}
use mathlib.Core.List.{List, [], ◌∷◌, ◌++◌}
use lib.ListN.{length, get_or, take, drop, length-drop, length-append, take-append-drop}
use lib.Seq.{drop-drop, get_or-drop}
use lib.Dec.{eqb, leb, leb-suc-suc}
use borrow.Author.Tests.{eqb-false, leb-false, le-leb, lt-leb, eq-eqb, ne_eqb}
use native.Mathlib.Nat.{add_assoc, add-zero, zero-add, suc-add}
use native.Mathlib.Omega.{arith}
use native.Mathlib.Numerals.{add-one}
use Rattle.std.specs.Cmp.Lexicographic.{pointwise}
use Rattle.std.specs.Simd.{first_chunks}
use Rattle.std.specs.Prelude.{min, Option, Some, None, unwrap_or, IfSome, MatchOption}
use Rattle.std.proofs.lemmas.List.{take_rest, drop_min}
use Rattle.laws.specs.Lists.{same}
use Rattle.laws.proofs.Lists.{from, ended}
use Rattle.text.specs.Text.{onto, pieces, lines, fields, field, index_of}

-- the index of b lies further on past a byte that is not b; it is here at b, and at the end
module _ (b : ℕ) (s : List ℕ) (i : ℕ) where
  pub index_on : i < length s → (get_or s i 0 ≡ b → ⊥) → i + index_of b (drop i s) ≡ i + 1 + index_of b (drop (i + 1) s)
  unfolding index_of
  index_on h n = rw (from s i h, ne_eqb (get_or s i 0) b n) (omega arith)

  pub index-here : i < length s → get_or s i 0 ≡ b → i + index_of b (drop i s) ≡ i
  unfolding index_of
  index-here h e = rw (from s i h, eq-eqb (get_or s i 0) b e) (omega arith)

  pub index-end : length s ≤ i → i + index_of b (drop i s) ≡ i
  unfolding index_of
  index-end h = rw (ended s i h) (omega arith)

-- so many bytes stand before the first b
pub index-hit : (b x : ℕ) (s : List ℕ) → x ≡ b → index_of b (x ∷ s) ≡ 0
unfolding index_of
index-hit b x s e = rw (eq-eqb x b e)

pub index-miss : (b x : ℕ) (s : List ℕ) → (x ≡ b → ⊥) → index_of b (x ∷ s) ≡ index_of b s + 1
unfolding index_of
index-miss b x s n = rw (ne_eqb x b n) (sym (add-one _))

pub index-past : (b : ℕ) (s t : List ℕ) → index_of b s ≡ length s → index_of b (s ++ t) ≡ length s + index_of b t
unfolding index_of
index-past b [] t e = omega arith
index-past b (x ∷ s) t e = go (eqb x b) (index-past b s t) e
  where
    go : (q : Bool) → (index_of b s ≡ length s → index_of b (s ++ t) ≡ length s + index_of b t) → cond q zero (suc (index_of b s)) ≡ suc (length s)
        → cond q zero (suc (index_of b (s ++ t))) ≡ suc (length s) + index_of b t
    go true more e = absurd (omega arith)
    go false more e = omega (arith, more (omega arith))

-- what a search for the first b answers tells how many bytes stand before it
pub place-told : (found : Option ℕ) (n k : ℕ) → k ≡ unwrap_or found n → IfSome found (λ i. i < n) → MatchOption found (k ≡ n) (λ i. (i ≡ k) × (i < n))
place-told None n k e h = e
place-told (Some i) n k e h = (sym e, h)

-- some bytes from a place on that are joined by | into one test are none of them b where the test fails, so the index of b lies past them
pub index-behind : (b : ℕ) (s : List ℕ) (at i : ℕ) {n : ℕ} (near : Bool) → (near ≡ false → n ≡ at + i + index_of b (drop (at + i) s)) → at + i < length s
    → (near || eqb (get_or s (at + i) 0) b) ≡ false → n ≡ at + (i + 1) + index_of b (drop (at + (i + 1)) s)
index-behind b s at i true far h e = absurd (false≢true (sym e))
index-behind b s at i false far h e = far refl ∙ index_on b s (at + i) h (eqb-false (get_or s (at + i) 0) b e) ∙ rw (add_assoc at i 1)

-- the first bytes, and those behind them, where none of the first is b
pub index-on : (b : ℕ) (rest first more : List ℕ) (n : ℕ) → first ≡ take n rest → more ≡ drop n rest → index_of b first ≡ length first
    → (length more ≤ length rest) × (index_of b rest ≡ length rest - length more + index_of b more)
index-on b rest first more n e f far =
    let whole : first ++ more ≡ rest = rw (e, f) (take-append-drop n rest) in
    let long : length first + length more ≡ length rest = sym (length-append first more) ∙ ap length whole in
    let is : index_of b rest ≡ length first + index_of b more = ap (index_of b) (sym whole) ∙ index-past b first more far in
    (omega arith, omega arith)

-- the i-th eight bytes of k that stand side by side, and those behind them where they have no b
pub eight-at : (k i : ℕ) (s : List ℕ) → i < k → get_or (first_chunks 8 k s) i [] ≡ take 8 (drop (i * 8) s)
eight-at zero i s h = absurd (omega arith)
eight-at (suc k) zero s h = refl
eight-at (suc k) (suc i) s h = eight-at k i (drop 8 s) (omega arith) ∙ ap (take 8) (drop-drop (i * 8) 8 s ∙ ap (λ (n : ℕ). drop n s) (omega arith))

pub eight-behind : (b : ℕ) (s eight : List ℕ) (at : ℕ) → eight ≡ take 8 (drop at s) → at + 8 ≤ length s → index_of b eight ≡ length eight
    → at + index_of b (drop at s) ≡ at + 8 + index_of b (drop (at + 8) s)
eight-behind b s eight at e h far =
    let on = index-on b (drop at s) eight (drop 8 (drop at s)) 8 e refl far in
    omega (arith, on.1, ap (index_of b) (drop-drop 8 at s), length-drop at s, length-drop 8 (drop at s))

-- one byte more that is not b
pub index-further : (b : ℕ) (s : List ℕ) (x : ℕ) (near : Bool) → (near ≡ false → index_of b s ≡ length s) → (near || eqb x b) ≡ false
    → index_of b (s ++ (x ∷ [])) ≡ length (s ++ (x ∷ []))
unfolding index_of
index-further b s x true far e = absurd (false≢true (sym e))
index-further b s x false far e = omega (arith, index-past b s (x ∷ []) (far refl), length-append s (x ∷ []), index-miss b x [] (eqb-false x b e))

pub index-le : (b : ℕ) (s : List ℕ) → index_of b s ≤ length s
unfolding index_of
index-le b [] = omega arith
index-le b (x ∷ xs) = go (eqb x b) (index-le b xs)
  where
    go : (t : Bool) → index_of b xs ≤ length xs → cond t zero (suc (index_of b xs)) ≤ suc (length xs)
    go true h = omega arith
    go false h = omega arith

pub within : (b : ℕ) (s : List ℕ) (from : ℕ) → from ≤ length s → from + index_of b (drop from s) ≤ length s
within b s from h = omega (arith, index-le b (drop from s), length-drop from s)

-- the first b from a place on: what is cut off from there tells it, and where the place is past the end nothing is
pub rest-from : (s : List ℕ) (at : ℕ) → take (length s - min at (length s)) (drop (min at (length s)) s) ≡ drop at s
rest-from s at = take_rest s (min at (length s)) ∙ drop_min at s

-- a word is the same as a field if they are equal byte by byte
pub same-pointwise : (a b : List ℕ) → pointwise eqb a b ≡ same a b
unfolding same
same-pointwise [] [] = refl
same-pointwise [] (y ∷ b) = refl
same-pointwise (x ∷ a) [] = refl
same-pointwise (x ∷ a) (y ∷ b) = ap (λ t. eqb x y && t) (same-pointwise a b)

-- the pieces of a text, for lines and for fields alike: the first is what stands before the first separator, and after it come the pieces
-- of the rest, or none where there is no separator
onto-first : (x : ℕ) (ps : List (List ℕ)) → get_or (onto x ps) 0 [] ≡ x ∷ get_or ps 0 []
unfolding onto
onto-first x [] = refl
onto-first x (p ∷ ps) = refl

onto-rest : (x : ℕ) (ps : List (List ℕ)) → drop 1 (onto x ps) ≡ drop 1 ps
unfolding onto
onto-rest x [] = refl
onto-rest x (p ∷ ps) = refl

onto-some : (x : ℕ) (ps : List (List ℕ)) → 0 < length (onto x ps)
unfolding onto
onto-some x [] = omega arith
onto-some x (p ∷ ps) = omega arith

module _ (none : List (List ℕ)) (b : ℕ) where
  some : (s : List ℕ) → 0 < length none + length s → 0 < length (pieces none b s)
  unfolding pieces
  some [] h = omega arith
  some (x ∷ xs) h = go (eqb x b)
    where
      go : (t : Bool) → 0 < length (cond t ([] ∷ pieces none b xs) (onto x (pieces none b xs)))
      go true = omega arith
      go false = onto-some x (pieces none b xs)

  first : get_or none 0 [] ≡ [] → (s : List ℕ) → get_or (pieces none b s) 0 [] ≡ take (index_of b s) s
  unfolding pieces index_of
  first e [] = e
  first e (x ∷ xs) = go (eqb x b) (first e xs)
    where
      go : (t : Bool) → get_or (pieces none b xs) 0 [] ≡ take (index_of b xs) xs
          → get_or (cond t ([] ∷ pieces none b xs) (onto x (pieces none b xs))) 0 [] ≡ take (cond t zero (suc (index_of b xs))) (x ∷ xs)
      go true h = refl
      go false h = onto-first x (pieces none b xs) ∙ ap (λ l. x ∷ l) h

  -- the pieces of a text from a place on, none past its end: `fields_from` where commas part them
  unfoldable onward : List ℕ → ℕ → List (List ℕ)
  onward s at = cond (leb at (length s)) (pieces none b (drop at s)) []

  onward-suc : (x : ℕ) (xs : List ℕ) (n : ℕ) → onward (x ∷ xs) (suc n) ≡ onward xs n
  unfolding onward
  onward-suc x xs n = rw (leb-suc-suc n (length xs))

  rest : drop 1 none ≡ [] → (s : List ℕ) → drop 1 (pieces none b s) ≡ onward s (suc (index_of b s))
  unfolding pieces index_of onward
  rest e [] = e
  rest e (x ∷ xs) = go (eqb x b) (rest e xs)
    where
      go : (t : Bool) → drop 1 (pieces none b xs) ≡ onward xs (suc (index_of b xs))
          → drop 1 (cond t ([] ∷ pieces none b xs) (onto x (pieces none b xs))) ≡ onward (x ∷ xs) (suc (cond t zero (suc (index_of b xs))))
      go true h = rw (le-leb 1 (suc (length xs)) (omega arith))
      go false h = onto-rest x (pieces none b xs) ∙ h ∙ sym (onward-suc x xs (suc (index_of b xs)))

  shift : (at n : ℕ) (s : List ℕ) → at ≤ length s → onward (drop at s) n ≡ onward s (at + n)
  shift zero n s h = rw (zero-add n)
  shift (suc at) n [] h = absurd (omega arith)
  shift (suc at) n (x ∷ xs) h = shift at n xs (omega arith) ∙ sym (onward-suc x xs (at + n)) ∙ rw (suc-add at n)

  -- a piece that begins at a place ends at e, and the pieces after it begin one byte later
  module _ (s : List ℕ) (at e : ℕ) (ends : e ≡ at + index_of b (drop at s)) where
    piece-here : get_or none 0 [] ≡ [] → get_or (pieces none b (drop at s)) 0 [] ≡ take (e - at) (drop at s)
    piece-here one =
        let n : e - at ≡ index_of b (drop at s) = omega arith in
        rw n (first one (drop at s))

    piece-next : drop 1 none ≡ [] → at ≤ length s → drop 1 (pieces none b (drop at s)) ≡ onward s (e + 1)
    piece-next alone h =
        let next : at + suc (index_of b (drop at s)) ≡ e + 1 = omega arith in
        rest alone (drop at s) ∙ shift at (suc (index_of b (drop at s))) s h ∙ rw next

-- a line from a place on, and the lines after it
onward-lines : (s : List ℕ) (n : ℕ) → onward [] 10 s n ≡ lines (drop n s)
unfolding onward pieces
onward-lines s n = go (leb n (length s)) refl
  where
    go : (t : Bool) → leb n (length s) ≡ t → cond t (lines (drop n s)) [] ≡ lines (drop n s)
    go true h = refl
    go false h = rw (ended s n (omega (arith, leb-false n (length s) h)))

apart : (ps : List (List ℕ)) → 0 < length ps → ps ≡ get_or ps 0 [] ∷ drop 1 ps
apart [] h = absurd (omega arith)
apart (p ∷ ps) h = refl

pub line-here : (s : List ℕ) (at e : ℕ) → at < length s → e ≡ at + index_of 10 (drop at s) → lines (drop at s) ≡ take (e - at) (drop at s) ∷ lines (drop (e + 1) s)
line-here s at e h ends =
    let here = piece-here [] 10 s at e ends refl in
    let next = piece-next [] 10 s at e ends refl (omega arith) ∙ onward-lines s (e + 1) in
    apart (lines (drop at s)) (some [] 10 (drop at s) (omega (arith, length-drop at s))) ∙ (λ i. here i ∷ next i)

pub first-line : (s : List ℕ) (at e : ℕ) → e ≡ at + index_of 10 (drop at s) → get_or (lines (drop at s)) 0 [] ≡ take (e - at) (drop at s)
first-line s at e ends = piece-here [] 10 s at e ends refl

-- the first field of a line ends at the first comma, and the others are the fields of what stands behind it, if it is there
pub first-field : (s : List ℕ) → get_or (fields s) 0 [] ≡ take (index_of 44 s) s
first-field s = first ([] ∷ []) 44 refl s

pub fields-some : (s : List ℕ) → 0 < length (fields s)
fields-some s = some ([] ∷ []) 44 s (omega arith)

pub other-fields : (s : List ℕ) → index_of 44 s < length s → fields (drop (index_of 44 s + 1) s) ≡ drop 1 (fields s)
unfolding onward
other-fields s h =
    let within : suc (index_of 44 s) ≤ length s = omega arith in
    sym (rest ([] ∷ []) 44 refl s ∙ rw (le-leb (suc (index_of 44 s)) (length s) within, add-one (index_of 44 s)))

pub no-fields : (s : List ℕ) → length s ≤ index_of 44 s → drop 1 (fields s) ≡ []
unfolding onward
no-fields s h =
    let past : length s < suc (index_of 44 s) = omega arith in
    rest ([] ∷ []) 44 refl s ∙ rw (lt-leb (suc (index_of 44 s)) (length s) past)

pub field-drop : (line : List ℕ) (k : ℕ) → field line k ≡ get_or (drop k (fields line)) 0 []
field-drop line k = rw (get_or-drop, add-zero)
