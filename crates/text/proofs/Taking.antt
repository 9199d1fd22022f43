-- A field that is read where it stands: what its bytes in front with a property tell of it. Assumes nothing.
use Prim.Native.Nat.{ℕ, zero, suc, ◌+◌, ◌-◌, ◌≤◌, ◌<◌}
use mathlib.Core.Path.{◌≡◌, refl, sym, ap, ◌∙◌}
use mathlib.Core.Bool.{Bool, true, false, cond, not, ◌&&◌, false≢true, and_assoc, and-false}
use mathlib.Core.List.{List, [], ◌∷◌}
use lib.ListN.{length, get_or, take, drop, length-take, length-drop}
use lib.Seq.{take-nil, drop-drop, length-take-le}
use lib.Dec.{eqb, leb, leb-suc-suc}
use borrow.Author.Tests.{eqb-true, eqb-false, eq-eqb, ne_eqb, leb-true, leb-false, le-leb, lt-leb}
use native.Mathlib.Decide.{dec_lt}
use native.Mathlib.Omega.{arith}
use Rattle.text.specs.Text.{all, pieces, fields, made, numeral, index_of}
use Rattle.text.specs.Inner.Taking.{fields_in, front, run_read, read_as}
use Rattle.std.specs.Prelude.{Option, Some, None, is_some, unwrap_or}
use denote.Ref.{Bor}
use Rattle.std.specs.Bool.{then_some}
use Rattle.laws.proofs.Lists.{from, ended}
use Rattle.text.proofs.Lists.{index-le, first-field, fields-some}
use Rattle.text.proofs.Runs.{front-all, front-le}

-- the bytes before the first comma
abbrev pub until_comma : List ℕ → List ℕ
until_comma s = take (index_of 44 s) s

-- whether a field ends before these bytes: there are none, or a comma is the first
unfoldable is_end : List ℕ → Bool
is_end [] = true
is_end (x ∷ xs) = eqb x 44

pub field-size : (s : List ℕ) → length (until_comma s) ≡ index_of 44 s
field-size s = length-take-le (index_of 44 s) s (index-le 44 s)

-- a property that no comma has: the bytes in front that have it, of at most m, are the field where the field ends behind them, and else the field is
-- longer than m or has a byte without the property
module _ (p : ℕ → Bool) (no : p 44 ≡ false) where
  apart : (x : ℕ) → p x ≡ true → eqb x 44 ≡ false
  apart x t = go (eqb x 44) refl
    where
      go : (c : Bool) → eqb x 44 ≡ c → c ≡ false
      go true e = absurd (false≢true (sym no ∙ ap p (sym (eqb-true x 44 e)) ∙ t))
      go false e = refl

  front-field : (m : ℕ) (s : List ℕ) → is_end (drop (length (front p (take m s))) s) ≡ true → until_comma s ≡ front p (take m s)
  unfolding front is_end index_of
  front-field m [] e = rw (take-nil m)
  front-field zero (x ∷ xs) e = rw e
  front-field (suc m) (x ∷ xs) e = go (p x) refl (front-field m xs) e
    where
      go : (t : Bool) → p x ≡ t → (is_end (drop (length (front p (take m xs))) xs) ≡ true → until_comma xs ≡ front p (take m xs))
          → is_end (drop (length (cond t (x ∷ front p (take m xs)) [])) (x ∷ xs)) ≡ true
          → take (cond (eqb x 44) zero (suc (index_of 44 xs))) (x ∷ xs) ≡ cond t (x ∷ front p (take m xs)) []
      go true t same e = rw (apart x t) (ap (λ (l : List ℕ). x ∷ l) (same e))
      go false t same e = rw e

  front-over : (m : ℕ) (s : List ℕ) → is_end (drop (length (front p (take m s))) s) ≡ false → (leb (length (until_comma s)) m && all p (until_comma s)) ≡ false
  unfolding front is_end index_of all
  front-over m [] e = absurd (false≢true (sym (rw (take-nil m) at e)))
  front-over zero (x ∷ xs) e = rw (e, lt-leb (suc (length (until_comma xs))) 0 (omega arith))
  front-over (suc m) (x ∷ xs) e = go (p x) refl (front-over m xs) e
    where
      go : (t : Bool) → p x ≡ t → (is_end (drop (length (front p (take m xs))) xs) ≡ false → (leb (length (until_comma xs)) m && all p (until_comma xs)) ≡ false)
          → is_end (drop (length (cond t (x ∷ front p (take m xs)) [])) (x ∷ xs)) ≡ false
          → (leb (length (take (cond (eqb x 44) zero (suc (index_of 44 xs))) (x ∷ xs))) (suc m) && all p (take (cond (eqb x 44) zero (suc (index_of 44 xs))) (x ∷ xs))) ≡ false
      go true t over e = rw (apart x t, t, leb-suc-suc) (over e)
      go false t over e = rw (e, t, and-false)

-- the bytes in front are all, where they are no fewer
front-full : (p : ℕ → Bool) (m : ℕ) (s : List ℕ) → length s ≤ length (front p (take m s)) → front p (take m s) ≡ s
unfolding front
front-full p m [] h = rw (take-nil m)
front-full p zero (x ∷ xs) h = absurd (omega arith)
front-full p (suc m) (x ∷ xs) h = go (p x) (front-full p m xs) h
  where
    go : (t : Bool) → (length xs ≤ length (front p (take m xs)) → front p (take m xs) ≡ xs) → suc (length xs) ≤ length (cond t (x ∷ front p (take m xs)) [])
        → cond t (x ∷ front p (take m xs)) [] ≡ x ∷ xs
    go true more h = ap (λ (l : List ℕ). x ∷ l) (more (omega arith))
    go false more h = absurd (omega arith)

-- where they are fewer, there are more than m or one has not the property
front-part : (p : ℕ → Bool) (m : ℕ) (s : List ℕ) → length (front p (take m s)) < length s → (leb (length s) m && all p s) ≡ false
unfolding front all
front-part p m [] h = absurd (omega arith)
front-part p zero (x ∷ xs) h = rw (lt-leb (suc (length xs)) 0 (omega arith))
front-part p (suc m) (x ∷ xs) h = go (p x) refl (front-part p m xs) h
  where
    go : (t : Bool) → p x ≡ t → (length (front p (take m xs)) < length xs → (leb (length xs) m && all p xs) ≡ false)
        → length (cond t (x ∷ front p (take m xs)) []) < suc (length xs) → (leb (suc (length xs)) (suc m) && (p x && all p xs)) ≡ false
    go true t part h = rw (t, leb-suc-suc) (part (omega arith))
    go false t part h = rw (t, and-false)

module _ (p : ℕ → Bool) (least most base naught : ℕ) (s : List ℕ) where
  pub read_short : length s < least → None ≡ read_as p least most base naught s
  unfolding made read_as
  read_short h = rw (lt-leb least (length s) h)

  read-over : (leb (length s) most && all p s) ≡ false → None ≡ read_as p least most base naught s
  unfolding made read_as
  read-over e = rw (and_assoc (leb least (length s)) (leb (length s) most) (all p s), e, and-false)

  -- it is read where it is the bytes in front, of at most as many
  read-front : (t : List ℕ) → s ≡ front p (take most t) → least ≤ length s → Some (numeral base naught s) ≡ read_as p least most base naught s
  unfolding made read_as
  read-front t e h =
      let few : length s ≤ most = omega (arith, ap length e, front-le p (take most t), length-take most t) in
      let tested : all p s ≡ true = rw e (front-all p (take most t)) in
      rw (le-leb least (length s) h, le-leb (length s) most few, tested)

-- a run over a whole field: it stops before its end, or it has read it
module _ (p : ℕ → Bool) (least most base naught : ℕ) (s : List ℕ) {value end : ℕ} (is : (value, end) ≡ run_read p base naught (take most s)) where
  pub field-stops : end < length s → None ≡ read_as p least most base naught s
  unfolding run_read
  field-stops h = read-over p least most base naught s (front-part p most s (omega (arith, ap (λ (r : ℕ × ℕ). r.1) is)))

  pub field-read : least ≤ length s → length s ≤ end → Some value ≡ read_as p least most base naught s
  unfolding run_read
  field-read h k =
      let full = front-full p most s (omega (arith, ap (λ (r : ℕ × ℕ). r.1) is)) in
      ap Some (ap (λ (r : ℕ × ℕ). r.0) is ∙ ap (numeral base naught) full) ∙ read-front p least most base naught s s (sym full) h

-- a run over the first bytes of what is left of a line, and its first field
module _ (p : ℕ → Bool) (tame : p 44 ≡ false) (least most base naught : ℕ) (s : List ℕ) {value end : ℕ} (is : (value, end) ≡ run_read p base naught (take most s)) where
  abbrev lead : List ℕ
  lead = front p (take most s)

  run_end : end ≡ length lead
  unfolding run_read
  run_end = ap (λ (r : ℕ × ℕ). r.1) is

  run_value : value ≡ numeral base naught lead
  unfolding run_read
  run_value = ap (λ (r : ℕ × ℕ). r.0) is

  pub run-le : end ≤ most
  run-le = omega (arith, run_end, front-le p (take most s), length-take most s)

  pub run-within : end ≤ length s
  run-within = omega (arith, run_end, front-le p (take most s), length-take most s)

  -- a byte that is no comma stands behind the run
  pub taken-over : end < length s → (get_or s end 0 ≡ 44 → ⊥) → None ≡ read_as p least most base naught (get_or (fields s) 0 [])
  unfolding is_end
  taken-over h n =
      let off : is_end (drop (length lead) s) ≡ false = rw (← run_end, from s end h, ne_eqb (get_or s end 0) 44 n) in
      rw (first-field s) (read-over p least most base naught (until_comma s) (front-over p tame most s off))

  module _ (ends : end < length s → get_or s end 0 ≡ 44) where
    at-end : is_end (drop (length lead) s) ≡ true
    unfolding is_end
    at-end = rw (← run_end) (go (dec_lt end (length s)))
      where
        go : Dec (end < length s) → is_end (drop end s) ≡ true
        go (yes h) = rw (from s end h, eq-eqb (get_or s end 0) 44 (ends h))
        go (no h) = rw (ended s end (omega arith))

    whole : until_comma s ≡ lead
    whole = front-field p tame most s at-end

    pub run-comma : end ≡ index_of 44 s
    run-comma = omega (arith, run_end, ap length whole, field-size s)

    pub taken-short : end < least → None ≡ read_as p least most base naught (get_or (fields s) 0 [])
    taken-short h = rw (first-field s) (read_short p least most base naught (until_comma s) (omega (arith, run_end, ap length whole)))

    pub taken_is : least ≤ end → Some value ≡ read_as p least most base naught (get_or (fields s) 0 [])
    taken_is h =
        rw (first-field s)
        (ap Some (run_value ∙ ap (numeral base naught) (sym whole))
        ∙ read-front p least most base naught (until_comma s) s whole (omega (arith, run_end, ap length whole)))

-- a run over all bytes: they are read exactly if it has read them, and they are enough
module _ (p : ℕ → Bool) (least most base naught : ℕ) (s : List ℕ) {run : ℕ × ℕ} (is : run ≡ run_read p base naught (take most s)) where
  pub field-whole : then_some (leb least run.1 && eqb run.1 (length s)) run.0 ≡ cond (made p least most s) (Some (numeral base naught s)) None
  unfolding run_read read_as
  field-whole = go (leb least run.1) (eqb run.1 (length s)) refl refl
    where
      size : run.1 ≡ length (front p (take most s))
      size = ap (λ (r : ℕ × ℕ). r.1) is

      part : eqb run.1 (length s) ≡ false → None ≡ read_as p least most base naught s
      part e =
          read-over p least most base naught s (front-part p most s (omega (arith, size, eqb-false run.1 (length s) e, front-le p (take most s), length-take most s)))

      go : (l t : Bool) → leb least run.1 ≡ l → eqb run.1 (length s) ≡ t → then_some (l && t) run.0 ≡ read_as p least most base naught s
      go true true l e =
          let all : run.1 ≡ length s = eqb-true run.1 (length s) e in
          let full = front-full p most s (omega (arith, size)) in
          ap Some (ap (λ (r : ℕ × ℕ). r.0) is ∙ ap (numeral base naught) full)
          ∙ read-front p least most base naught s s (sym full) (omega (arith, leb-true least run.1 l))
      go false true l e =
          read_short p least most base naught s (omega (arith, eqb-true run.1 (length s) e, leb-false least run.1 l))
      go true false l e = part e
      go false false l e = part e

-- where nothing is left, no bytes have the same first field and the same others
pub rest-first : (left : Option (Bor (List ℕ))) (none : Bor (List ℕ)) → none.now ≡ []
    → get_or (fields_in left) 0 [] ≡ get_or (fields (unwrap_or left none).now) 0 []
unfolding pieces
rest-first None none e = rw e refl
rest-first (Some rest) none e = refl

pub rest-others : (left : Option (Bor (List ℕ))) (none : Bor (List ℕ)) → none.now ≡ [] → drop 1 (fields_in left) ≡ drop 1 (fields (unwrap_or left none).now)
unfolding pieces
rest-others None none e = rw e refl
rest-others (Some rest) none e = refl

pub rest-none : (left : Option (Bor (List ℕ))) (none : Bool) → is_some left ≡ not none → none ≡ eqb (length (fields_in left)) 0
rest-none None true e = refl
rest-none None false e = absurd (false≢true e)
rest-none (Some rest) true e = absurd (false≢true (sym e))
rest-none (Some rest) false e = sym (ne_eqb (length (fields rest.now)) 0 (λ z. omega (arith, fields-some rest.now)))
