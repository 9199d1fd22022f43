-- Each way of putting shapes together keeps them exact, and what follows of every exact shape. Assumes nothing.
use Prim.Native.Nat.{ℕ, zero, suc, ◌*◌, ◌-◌, ◌≤◌, ◌<◌}
use mathlib.Core.Path.{◌≡◌, refl, sym, ap, ap₂, ◌∙◌}
use mathlib.Core.Bool.{Bool, true, false, cond, ◌&&◌}
use mathlib.Core.List.{List, [], ◌∷◌, ◌++◌, append_assoc, append-nil}
use native.Mathlib.Nat.{mul-le-mul_right}
use native.Mathlib.Omega.{arith}
use lib.Dec.{eqb, leb}
use lib.ListN.{length, get_or, take, drop, length-append, length-drop, take-append-drop}
use lib.Seq.{take_at, drop_at, take-add, take-take, length-take-le}
use borrow.Author.Tests.{eqb-true, eq-eqb, leb-true, le-leb}
use Rattle.laws.proofs.Tests.{and_l, and_r, and_i, and-on, same_test}
use Rattle.laws.specs.Lists.{same}
use Rattle.laws.proofs.Lists.{same-eq, same_refl}
use Rattle.shapes.specs.Tables.{zeros, all_zero, flat, places, places_pass}
use Rattle.laws.specs.Folds.{every}
use Rattle.shapes.specs.Shape.{Shape, Exact, Long, cell, coded, both, named, rows, table, Field, ExactField, flag, word}
use Rattle.shapes.proofs.Tables.{length-zeros, all-zeros, zeros-all, length-places, length-flat, places-flat, pass-flat, every-places, flat-places}

-- the first number of numbers
pub front : (xs : List ℕ) → 1 ≤ length xs → get_or xs 0 0 ∷ [] ≡ take 1 xs
front [] h = absurd (omega arith)
front (x ∷ xs) h = refl

pub one-exact : (p : ℕ → Bool) → Exact (cell p)
unfolding cell
one-exact p = record { long = λ a h. refl; back = λ a rest h. refl; pass = λ a rest h. h; valid = λ xs l h. h; same = λ xs l h. front xs l }

pub coded-exact : {A : Type 0} (w : ℕ) (ok : A → Bool) (dec : List ℕ → A) (enc : A → List ℕ) → ((a : A) → length (enc a) ≡ w)
    → ((a : A) (rest : List ℕ) → ok a ≡ true → dec (enc a ++ rest) ≡ a) → Exact (coded w ok dec enc)
unfolding coded
coded-exact w ok dec enc long back = record {
  long = λ a h. long a;
  back = back;
  pass = λ a rest h. rw (back a rest h, take_at (enc a) rest w (long a), same_refl (enc a)) h;
  valid = λ xs l h. and_r (same (take w xs) (enc (dec xs))) (ok (dec xs)) h;
  same = λ xs l h. sym (same-eq (take w xs) (enc (dec xs)) (and_l (same (take w xs) (enc (dec xs))) (ok (dec xs)) h));
}

module _ {n m : ℕ} {A B : Type 0} (s : Shape n A) (t : A → Shape m B) (e : Exact s) (f : (a : A) → s.ok a ≡ true → Exact (t a)) where
  pub both-exact : Exact (both s t)
  unfolding both
  both-exact = record {
    long = λ p h. omega (arith, length-append (s.write p.0) ((t p.0).write p.1), e.long p.0 (left p h), (other p h).long p.1 (right p h));
    back = λ p rest h. (λ i. (first p rest h i, (t (first p rest h i)).read (second p rest h i))) ∙ ap (λ (b : B). (p.0, b)) ((other p h).back p.1 rest (right p h));
    pass = λ p rest h.
        (λ i. s.test (append_assoc (s.write p.0) ((t p.0).write p.1) rest i) && (t (first p rest h i)).test (second p rest h i))
        ∙ and_i (e.pass p.0 _ (left p h)) ((other p h).pass p.1 rest (right p h));
    valid = λ xs l h.
        let v = e.valid xs (omega arith) (and_l (s.test xs) _ h) in
        and_i v ((f (s.read xs) v).valid (drop n xs) (omega (arith, length-drop n xs)) (and_r (s.test xs) _ h));
    same = λ xs l h.
        let v = e.valid xs (omega arith) (and_l (s.test xs) _ h) in
        ap₂ (λ (x y : List ℕ). x ++ y) (e.same xs (omega arith) (and_l (s.test xs) _ h))
        ((f (s.read xs) v).same (drop n xs) (omega (arith, length-drop n xs)) (and_r (s.test xs) _ h))
        ∙ sym (take-add n m xs);
  }
    where
      left : (p : A × B) → (s.ok p.0 && (t p.0).ok p.1) ≡ true → s.ok p.0 ≡ true
      left p h = and_l (s.ok p.0) _ h

      right : (p : A × B) → (s.ok p.0 && (t p.0).ok p.1) ≡ true → (t p.0).ok p.1 ≡ true
      right p h = and_r (s.ok p.0) _ h

      other : (p : A × B) → (s.ok p.0 && (t p.0).ok p.1) ≡ true → Exact (t p.0)
      other p h = f p.0 (left p h)

      first : (p : A × B) (rest : List ℕ) → (s.ok p.0 && (t p.0).ok p.1) ≡ true
          → s.read ((s.write p.0 ++ (t p.0).write p.1) ++ rest) ≡ p.0
      first p rest h = ap s.read (append_assoc (s.write p.0) _ rest) ∙ e.back p.0 _ (left p h)

      second : (p : A × B) (rest : List ℕ) → (s.ok p.0 && (t p.0).ok p.1) ≡ true
          → drop n ((s.write p.0 ++ (t p.0).write p.1) ++ rest) ≡ (t p.0).write p.1 ++ rest
      second p rest h = ap (drop n) (append_assoc (s.write p.0) _ rest) ∙ drop_at (s.write p.0) _ n (e.long p.0 (left p h))

module _ {n : ℕ} {A B : Type 0} (f : A → B) (g : B → A) (s : Shape n A) (e : Exact s) (fg : (b : B) → f (g b) ≡ b) (gf : (a : A) → s.ok a ≡ true → g (f a) ≡ a) where
  pub named-exact : Exact (named f g s)
  unfolding named
  named-exact = record {
    long = λ b h. e.long (g b) h;
    back = λ b rest h. ap f (e.back (g b) rest h) ∙ fg b;
    pass = λ b rest h. e.pass (g b) rest h;
    valid = λ xs l h. ap s.ok (gf (s.read xs) (e.valid xs l h)) ∙ e.valid xs l h;
    same = λ xs l h. ap s.write (gf (s.read xs) (e.valid xs l h)) ∙ e.same xs l h;
  }

module _ {w : ℕ} {A : Type 0} (n : ℕ) (s : Shape w A) (k : ℕ) where
  ok_rows : List A → Bool
  ok_rows rs = eqb (length rs) k && leb k n && every s.ok rs

  many : (rs : List A) → ok_rows rs ≡ true → length rs ≡ k
  unfolding ok_rows
  many rs h = eqb-true _ _ (and_l (eqb (length rs) k) (leb k n) (and_l (eqb (length rs) k && leb k n) (every s.ok rs) h))

  few : (rs : List A) → ok_rows rs ≡ true → k ≤ n
  unfolding ok_rows
  few rs h = leb-true _ _ (and_r (eqb (length rs) k) (leb k n) (and_l (eqb (length rs) k && leb k n) (every s.ok rs) h))

  all : (rs : List A) → ok_rows rs ≡ true → every s.ok rs ≡ true
  unfolding ok_rows
  all rs h = and_r (eqb (length rs) k && leb k n) (every s.ok rs) h

  row-long : Long s → (rs : List A) → ok_rows rs ≡ true → length (flat s.write rs ++ zeros (n * w - length rs * w)) ≡ n * w
  row-long l rs h =
      let z = n * w - length rs * w in
      omega (
        arith,
        length-append (flat s.write rs) (zeros z),
        length-zeros z,
        length-flat s l rs (all rs h),
        ap (λ (j : ℕ). j * w) (many rs h),
        mul-le-mul_right w (few rs h),
      )

  pub rows-many : (rs : List A) → (rows n s k).ok rs ≡ true → length rs ≡ k
  unfolding rows ok_rows
  rows-many rs h = many rs h

  pub rows_all : (rs : List A) → (rows n s k).ok rs ≡ true → every s.ok rs ≡ true
  unfolding rows ok_rows
  rows_all rs h = all rs h

  record Tested (xs : List ℕ) : Type 0 where
    fit : k ≤ n
    room : k * w ≤ n * w
    passed : places_pass w s.test k xs ≡ true
    rest : all_zero (drop (k * w) (take (n * w) xs)) ≡ true

  tested : (xs : List ℕ) → (leb k n && places_pass w s.test k xs && all_zero (drop (k * w) (take (n * w) xs))) ≡ true → Tested xs
  tested xs h =
      let f = and_l (leb k n && places_pass w s.test k xs) _ h in
      let l = leb-true _ _ (and_l (leb k n) _ f) in
      record { fit = l; room = mul-le-mul_right w l; passed = and_r (leb k n) _ f; rest = and_r (leb k n && places_pass w s.test k xs) _ h }

  pub rows-exact : Exact s → Exact (rows n s k)
  unfolding rows ok_rows
  rows-exact e = record {
    long = row-long e.long;
    back = λ rs rest h.
        ap₂ (λ (j : ℕ) (l : List ℕ). places w s.read j l) (sym (many rs h)) (append_assoc (flat s.write rs) _ rest) ∙ places-flat e rs _ (all rs h);
    pass = λ rs rest h.
        let z = zeros (n * w - length rs * w) in
        and_i (and_i (le-leb k n (few rs h))
        (ap₂ (λ (j : ℕ) (l : List ℕ). places_pass w s.test j l) (sym (many rs h)) (append_assoc (flat s.write rs) z rest) ∙ pass-flat e rs _ (all rs h)))
        (ap (λ (l : List ℕ). all_zero (drop (k * w) l)) (take_at (flat s.write rs ++ z) rest (n * w) (row-long e.long rs h))
        ∙ ap all_zero (drop_at (flat s.write rs) z (k * w) (length-flat s e.long rs (all rs h) ∙ ap (λ (j : ℕ). j * w) (many rs h))) ∙ all-zeros (n * w - length rs * w));
    valid = λ xs l h.
        let t = tested xs h in
        and_i (and_i (eq-eqb _ _ (length-places w s.read k xs)) (le-leb k n t.fit)) (every-places e k xs (omega (arith, t.room)) t.passed);
    same = λ xs l h.
        let t = tested xs h in
        let long : length (drop (k * w) (take (n * w) xs)) ≡ n * w - length (places w s.read k xs) * w =
        length-drop (k * w) (take (n * w) xs) ∙ ap₂ (λ (x y : ℕ). x - y * w) (length-take-le (n * w) xs l) (sym (length-places w s.read k xs)) in
        ap₂ (λ (x y : List ℕ). x ++ y) (flat-places e k xs (omega (arith, t.room)) t.passed ∙ sym (take-take (k * w) (n * w) xs t.room))
        (ap zeros (sym long) ∙ sym (zeros-all (drop (k * w) (take (n * w) xs)) t.rest))
        ∙ take-append-drop (k * w) (take (n * w) xs);
  }

counted : {w : ℕ} {A : Type 0} (n : ℕ) (s : Shape w A) (p : ℕ × List A) → (both (cell (λ k. leb k n)) (rows n s)).ok p ≡ true → (length p.1, p.1) ≡ p
unfolding both rows ok_rows
counted n s p h = ap (λ (k : ℕ). (k, p.1)) (many n s p.0 p.1 (and_r ((cell (λ k. leb k n)).ok p.0) _ h))

pub table-exact : {w : ℕ} {A : Type 0} (n : ℕ) (s : Shape w A) → Exact s → Exact (table n s)
unfolding table
table-exact n s e =
    named-exact (λ p. p.1) (λ rs. (length rs, rs)) (both (cell (λ k. leb k n)) (rows n s))
    (both-exact (cell (λ k. leb k n)) (rows n s) (one-exact (λ k. leb k n)) (λ k h. rows-exact n s k e)) (λ b. refl) (counted n s)

-- fields of one number
pub flag-exact : ExactField flag
unfolding flag
flag-exact = record { small = small; back = back; pass = pass; valid = λ x o. refl; same = λ x o. same x (leb-true _ _ o) }
  where
    small : (b : Bool) → true ≡ true → cond b 1 0 < 2
    small true o = omega arith
    small false o = omega arith

    back : (b : Bool) → true ≡ true → eqb (cond b 1 0) 1 ≡ b
    back true o = refl
    back false o = refl

    pass : (b : Bool) → true ≡ true → leb (cond b 1 0) 1 ≡ true
    pass true o = refl
    pass false o = refl

    same : (x : ℕ) → x ≤ 1 → cond (eqb x 1) 1 0 ≡ x
    same zero o = refl
    same (suc zero) o = refl
    same (suc (suc x)) o = absurd (omega arith)

pub word-exact : {b : ℕ} {A : Type 0} (f : Field b A) → ExactField f → Exact (word f)
unfolding word
word-exact f e = record {
  long = λ a h. refl;
  back = λ a rest h. e.back a h;
  pass = λ a rest h. e.pass a h;
  valid = λ xs l h. e.valid (get_or xs 0 0) h;
  same = λ xs l h. ap (λ (x : ℕ). x ∷ []) (e.same (get_or xs 0 0) h) ∙ front xs l;
}

-- of every exact shape
module _ {n : ℕ} {A : Type 0} (s : Shape n A) (e : Exact s) where
  -- the first numbers decide: a part that is lent alone is tested and read as it stands in the whole
  pub test-part : (xs : List ℕ) → n ≤ length xs → s.test (take n xs) ≡ s.test xs
  test-part xs l =
      same_test (s.test (take n xs)) (s.test xs)
      (λ h. let k : n ≤ length (take n xs) = omega (arith, length-take-le n xs l) in
      let a = s.read (take n xs) in
      let w : s.write a ≡ take n xs = e.same (take n xs) k h ∙ take-take n n xs (omega arith) in
      sym (ap s.test (ap (λ (q : List ℕ). q ++ drop n xs) w ∙ take-append-drop n xs)) ∙ e.pass a (drop n xs) (e.valid (take n xs) k h))
      (λ h. sym (ap s.test (append-nil (s.write (s.read xs)) ∙ e.same xs l h)) ∙ e.pass (s.read xs) [] (e.valid xs l h))

  pub read-part : (xs : List ℕ) → n ≤ length xs → s.test xs ≡ true → s.read (take n xs) ≡ s.read xs
  read-part xs l h = sym (ap s.read (append-nil (s.write (s.read xs)) ∙ e.same xs l h)) ∙ e.back (s.read xs) [] (e.valid xs l h)

  -- and so does one test more, of the value that is read
  pub first-decide : (p : A → Bool) (xs : List ℕ) → n ≤ length xs → (s.test (take n xs) && p (s.read (take n xs))) ≡ (s.test xs && p (s.read xs))
  first-decide p xs l = ap (λ (b : Bool). b && p (s.read (take n xs))) (test-part xs l) ∙ and-on (s.test xs) (λ h. ap p (read-part xs l h))

-- how many values a table holds is the number in front of it
pub table-many : {w : ℕ} {A : Type 0} (n : ℕ) (s : Shape w A) (xs : List ℕ) → length ((table n s).read xs) ≡ get_or xs 0 0
unfolding table named both cell rows
table-many {w} n s xs = length-places w s.read (get_or xs 0 0) (drop 1 xs)
