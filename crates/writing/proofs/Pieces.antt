-- Fields written with commas between them are the fields of the line, and dropping empty ones at its end changes none of them. Assumes nothing.
use Prim.Native.Nat.{ℕ, zero, suc, ◌≤◌, ◌<◌}
use mathlib.Core.Path.{◌≡◌, refl, sym, ap, ◌∙◌}
use mathlib.Core.Bool.{Bool, true, false, ◌&&◌, false≢true}
use mathlib.Core.List.{List, [], ◌∷◌, ◌++◌}
use lib.ListN.{length, get_or, get_or-eq_default}
use lib.Dec.{eqb, leb, ltb}
use borrow.Author.Tests.{eq-eqb, ne_eqb, ltb-true, le-leb}
use native.Mathlib.Decide.{dec_lt}
use native.Mathlib.Omega.{arith}
use Rattle.laws.proofs.Tests.{and_l, and_r, and_i}
use Rattle.text.specs.Text.{all, made, onto, pieces, fields}
use Rattle.laws.specs.Folds.{every}
use Rattle.writing.specs.Writing.{before_fields, trimmed, with_commas}
use Rattle.text.proofs.Bytes.{all_append, all_weaker, made_all}
use Rattle.laws.proofs.Every.{every_first, every_rest}

-- a text up to a separator is its first piece, where no byte before it is the separator
module _ (p : ℕ → Bool) (b : ℕ) (off : p b ≡ false) where
  apart : (x : ℕ) → p x ≡ true → eqb x b ≡ false
  apart x h = ne_eqb x b (λ e. false≢true (sym off ∙ (ap p (sym e) ∙ h)))

  pub piece_then : (none : List (List ℕ)) (a rest : List ℕ) → all p a ≡ true → pieces none b (a ++ (b ∷ rest)) ≡ a ∷ pieces none b rest
  unfolding all pieces onto
  piece_then none [] rest h = rw (eq-eqb b b refl)
  piece_then none (x ∷ a) rest h = rw (apart x (and_l (p x) (all p a) h), piece_then none a rest (and_r (p x) (all p a) h))

  pub piece-last : (a : List ℕ) → all p a ≡ true → pieces ([] ∷ []) b a ≡ a ∷ []
  unfolding all pieces onto
  piece-last [] h = refl
  piece-last (x ∷ a) h = rw (apart x (and_l (p x) (all p a) h), piece-last a (and_r (p x) (all p a) h))

-- the bytes of a written field, and those of a written line, which has commas too
abbrev pub in_field : ℕ → Bool
in_field x = ltb 44 x && ltb x 128

abbrev pub in_line : ℕ → Bool
in_line x = leb 44 x && ltb x 128

in-line : (x : ℕ) → in_field x ≡ true → in_line x ≡ true
in-line x h = and_i (le-leb 44 x (omega (arith, ltb-true 44 x (and_l (ltb 44 x) (ltb x 128) h)))) (and_r (ltb 44 x) (ltb x 128) h)

-- a field as it is written: at most 12 of these bytes
abbrev pub is_field : List ℕ → Bool
is_field f = made in_field 0 12 f

field-bytes : (f : List ℕ) → is_field f ≡ true → all in_line f ≡ true
field-bytes f h = all_weaker in-line f (made_all in_field 0 12 f h)

pub fields_back : (fs : List (List ℕ)) → 0 < length fs → every is_field fs ≡ true → fields (with_commas fs) ≡ fs
unfolding with_commas
fields_back [] h e = absurd (omega arith)
fields_back (f ∷ []) h e = piece-last in_field 44 refl f (made_all in_field 0 12 f (every_first is_field f [] e))
fields_back (f ∷ g ∷ rest) h e =
    piece_then in_field 44 refl ([] ∷ []) f (with_commas (g ∷ rest)) (made_all in_field 0 12 f (every_first is_field f (g ∷ rest) e))
    ∙ ap (λ fs. f ∷ fs) (fields_back (g ∷ rest) (omega arith) (every_rest is_field f (g ∷ rest) e))

pub commas-bytes : (fs : List (List ℕ)) → every is_field fs ≡ true → all in_line (with_commas fs) ≡ true
unfolding with_commas all
commas-bytes [] e = refl
commas-bytes (f ∷ []) e = field-bytes f (every_first is_field f [] e)
commas-bytes (f ∷ g ∷ rest) e =
    all_append in_line f (44 ∷ with_commas (g ∷ rest)) (field-bytes f (every_first is_field f (g ∷ rest) e))
    (commas-bytes (g ∷ rest) (every_rest is_field f (g ∷ rest) e))

-- trimmed fields: the same field stands at every place, none past the last that is not empty, and no field is new
front_at : (f : List ℕ) (fs : List (List ℕ)) (k : ℕ) → get_or (before_fields f fs) k [] ≡ get_or (f ∷ fs) k []
unfolding before_fields
front_at [] [] zero = refl
front_at [] [] (suc k) = refl
front_at [] (g ∷ rest) k = refl
front_at (x ∷ f) rest k = refl

pub trimmed-at : (fs : List (List ℕ)) (k : ℕ) → get_or (trimmed fs) k [] ≡ get_or fs k []
unfolding trimmed
trimmed-at [] k = refl
trimmed-at (f ∷ fs) zero = front_at f (trimmed fs) zero
trimmed-at (f ∷ fs) (suc k) = front_at f (trimmed fs) (suc k) ∙ trimmed-at fs k

pub trimmed-reach : (fs : List (List ℕ)) (k : ℕ) → 0 < length (get_or fs k []) → k < length (trimmed fs)
trimmed-reach fs k h = go (dec_lt k (length (trimmed fs)))
  where
    go : Dec (k < length (trimmed fs)) → k < length (trimmed fs)
    go (yes l) = l
    go (no l) =
        let empty = sym (trimmed-at fs k) ∙ get_or-eq_default (trimmed fs) [] {n = k} (omega arith) in
        absurd (omega (arith, ap length empty))

front-few : (f : List ℕ) (fs : List (List ℕ)) → length (before_fields f fs) ≤ suc (length fs)
unfolding before_fields
front-few [] [] = omega arith
front-few [] (g ∷ rest) = omega arith
front-few (x ∷ f) rest = omega arith

pub trimmed-few : (fs : List (List ℕ)) → length (trimmed fs) ≤ length fs
unfolding trimmed
trimmed-few [] = omega arith
trimmed-few (f ∷ fs) = omega (arith, front-few f (trimmed fs), trimmed-few fs)

module _ (ok : List ℕ → Bool) where
  front-every : (f : List ℕ) (fs : List (List ℕ)) → ok f ≡ true → every ok fs ≡ true → every ok (before_fields f fs) ≡ true
  unfolding before_fields every
  front-every [] [] h k = refl
  front-every [] (g ∷ rest) h k = and_i h k
  front-every (x ∷ f) rest h k = and_i h k

  pub trimmed-every : (fs : List (List ℕ)) → every ok fs ≡ true → every ok (trimmed fs) ≡ true
  unfolding trimmed every
  trimmed-every [] h = refl
  trimmed-every (f ∷ fs) h = front-every f (trimmed fs) (every_first ok f fs h) (trimmed-every fs (every_rest ok f fs h))
