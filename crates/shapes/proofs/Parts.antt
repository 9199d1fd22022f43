-- A part of a whole: where it stands, and that storing it leaves the rest. Parts of parts add their places. Assumes nothing.
use Prim.Native.Nat.{ℕ, suc, ◌+◌, ◌*◌, ◌-◌, ◌<◌}
use mathlib.Core.Path.{◌≡◌, refl, sym, ap, ap₂, ◌∙◌}
use mathlib.Core.Bool.{Bool, true}
use mathlib.Core.List.{List, [], ◌∷◌, ◌++◌, append_assoc, append-nil}
use native.Mathlib.Omega.{arith}
use lib.ListN.{length, get_or, take, drop, set, length-append, length-set}
use lib.Seq.{take_at, drop_at, set_at, split_at, set_split, length-take-le}
use Rattle.laws.proofs.Tests.{and_l, and_r}
use Rattle.shapes.specs.Tables.{zeros, flat}
use Rattle.laws.proofs.Every.{every-at, every_take}
use Rattle.shapes.specs.Shape.{Shape, Exact, Long, cell, both, rows}
use Rattle.shapes.proofs.Tables.{length-flat}
use Rattle.shapes.proofs.Exact.{rows-many, rows_all}

-- in the numbers of a good whole the numbers of its part `get` stand from place `at` on; `set` is the whole with another part
pub record Part {k : ℕ} {W P : Type 0} (good : W → Type 0) (write : W → List ℕ) (t : W → Shape k P) (at : ℕ) (get : W → P) (put : W → P → W) : Type 0 where
  pub before : W → List ℕ
  pub after : W → List ℕ
  pub ok : (w : W) → good w → (t w).ok (get w) ≡ true
  pub is : (w : W) → good w → write w ≡ before w ++ ((t w).write (get w) ++ after w)
  pub puts : (w : W) (p : P) → good w → write (put w p) ≡ before w ++ ((t w).write p ++ after w)
  pub starts : (w : W) → good w → length (before w) ≡ at

-- a part of the valid values of a shape
abbrev pub PartOf : {n k : ℕ} {W P : Type 0} → Shape n W → (W → Shape k P) → ℕ → (W → P) → (W → P → W) → Type 0
PartOf s t at get put = Part (λ w. s.ok w ≡ true) s.write t at get put

module _ {k : ℕ} {W P : Type 0} {good : W → Type 0} {write : W → List ℕ} {t : W → Shape k P} {at : ℕ} {get : W → P} {put : W → P → W}
    (h : Part good write t at get put) (w : W) (o : good w) (e : Exact (t w)) (rest : List ℕ) where
  whole : write w ++ rest ≡ h.before w ++ ((t w).write (get w) ++ (h.after w ++ rest))
  whole = ap (λ (l : List ℕ). l ++ rest) (h.is w o) ∙ simp append_assoc

  from-part : drop at (write w ++ rest) ≡ (t w).write (get w) ++ (h.after w ++ rest)
  from-part = ap (drop at) whole ∙ drop_at (h.before w) _ at (h.starts w o)

  -- what a part of the memory holds
  pub part_of : take k (drop at (write w ++ rest)) ≡ (t w).write (get w)
  part_of = ap (take k) from-part ∙ take_at ((t w).write (get w)) _ k (e.long (get w) (h.ok w o))

  -- what the memory holds after another value is stored in a part of it
  pub put-part : (p : P) → take at (write w ++ rest) ++ ((t w).write p ++ drop k (drop at (write w ++ rest))) ≡ write (put w p) ++ rest
  put-part p =
      ap₂ (λ (x y : List ℕ). x ++ ((t w).write p ++ y)) (ap (take at) whole ∙ take_at (h.before w) _ at (h.starts w o))
      (ap (drop k) from-part ∙ drop_at ((t w).write (get w)) _ k (e.long (get w) (h.ok w o)))
      ∙ sym (ap (λ (l : List ℕ). l ++ rest) (h.puts w p o) ∙ simp append_assoc)

-- a part of one number is stored by one store
pub put_one : (p : ℕ → Bool) {W : Type 0} {good : W → Type 0} {write : W → List ℕ} {at : ℕ} {get : W → ℕ} {put : W → ℕ → W} → Part good write (λ w. cell p) at get put
    → (w : W) → good w → (rest : List ℕ) (v : ℕ) → set (write w ++ rest) at v ≡ write (put w v) ++ rest
unfolding cell
put_one p {write = write} {at = at} h w o rest v =
    ap (λ (l : List ℕ). set l at v) (ap (λ (l : List ℕ). l ++ rest) (h.is w o) ∙ append_assoc (h.before w) _ rest)
    ∙ set_at (h.before w) _ (h.after w ++ rest) v at (h.starts w o) ∙ sym (ap (λ (l : List ℕ). l ++ rest) (h.puts w v o) ∙ append_assoc (h.before w) _ rest)

-- the two parts of `both`
module _ {n m : ℕ} {A B : Type 0} (s : Shape n A) (t : A → Shape m B) where
  pub first_part : ((a b : A) (x : B) → (t a).write x ≡ (t b).write x) → PartOf (both s t) (λ p. s) 0 (λ p. p.0) (λ p a. (a, p.1))
  unfolding both
  first_part same = record {
    before = λ p. [];
    after = λ p. (t p.0).write p.1;
    ok = λ p h. and_l (s.ok p.0) _ h;
    is = λ p h. refl;
    puts = λ p a h. ap (λ (l : List ℕ). s.write a ++ l) (same a p.0 p.1);
    starts = λ p h. refl;
  }

  pub second-part : Long s → PartOf (both s t) (λ p. t p.0) n (λ p. p.1) (λ p b. (p.0, b))
  unfolding both
  second-part l = record {
    before = λ p. s.write p.0;
    after = λ p. [];
    ok = λ p h. and_r (s.ok p.0) _ h;
    is = λ p h. ap (λ (l : List ℕ). s.write p.0 ++ l) (sym (append-nil _));
    puts = λ p b h. ap (λ (l : List ℕ). s.write p.0 ++ l) (sym (append-nil _));
    starts = λ p h. l p.0 (and_l (s.ok p.0) _ h);
  }

-- a part of a part
module _ {k j : ℕ} {W P Q : Type 0} {good : W → Type 0} {write : W → List ℕ} {t : W → Shape k P} {u : W → P → Shape j Q} {at off : ℕ} {get : W → P} {put : W → P → W}
    {get₂ : P → Q} {put₂ : P → Q → P} {good₂ : W → P → Type 0} (h : Part good write t at get put) (i : (w : W) → Part (good₂ w) (t w).write (u w) off get₂ put₂)
    (g : (w : W) → good w → good₂ w (get w)) where
  pub part-part : Part good write (λ w. u w (get w)) (at + off) (λ w. get₂ (get w)) (λ w q. put w (put₂ (get w) q))
  part-part = record {
    before = λ w. h.before w ++ (i w).before (get w);
    after = λ w. (i w).after (get w) ++ h.after w;
    ok = λ w o. (i w).ok (get w) (g w o);
    is = λ w o. h.is w o ∙ ap (λ (l : List ℕ). h.before w ++ (l ++ h.after w)) ((i w).is (get w) (g w o)) ∙ simp append_assoc;
    puts = λ w q o. h.puts w (put₂ (get w) q) o ∙ ap (λ (l : List ℕ). h.before w ++ (l ++ h.after w)) ((i w).puts (get w) q (g w o)) ∙ simp append_assoc;
    starts = λ w o. length-append (h.before w) ((i w).before (get w)) ∙ ap₂ (λ (a b : ℕ). a + b) (h.starts w o) ((i w).starts (get w) (g w o));
  }

-- the same part where more is known, of a record, and of values that pass one test more
module _ {k : ℕ} {A P : Type 0} {good : A → Type 0} {write : A → List ℕ} {t : A → Shape k P} {at : ℕ} {get : A → P} {put : A → P → A} (h : Part good write t at get put) where
  pub narrow : (better : A → Type 0) → ((a : A) → better a → good a) → Part better write t at get put
  narrow better f = record {
    before = h.before;
    after = h.after;
    ok = λ a o. h.ok a (f a o);
    is = λ a o. h.is a (f a o);
    puts = λ a p o. h.puts a p (f a o);
    starts = λ a o. h.starts a (f a o);
  }

  pub renamed : {B : Type 0} (f : A → B) (g : B → A) → ((a : A) → g (f a) ≡ a) → Part (λ b. good (g b)) (λ b. write (g b)) (λ b. t (g b)) at (λ b. get (g b)) (λ b p. f (put (g b) p))
  renamed f g e = record {
    before = λ b. h.before (g b);
    after = λ b. h.after (g b);
    ok = λ b o. h.ok (g b) o;
    is = λ b o. h.is (g b) o;
    puts = λ b p o. ap write (e (put (g b) p)) ∙ h.puts (g b) p o;
    starts = λ b o. h.starts (g b) o;
  }

  -- of values that are written by others, where the part is put in both alike
  pub seen : {B : Type 0} (g : B → A) (change : B → P → B) → ((b : B) (p : P) → g (change b p) ≡ put (g b) p)
      → Part (λ b. good (g b)) (λ b. write (g b)) (λ b. t (g b)) at (λ b. get (g b)) change
  seen g change e = record {
    before = λ b. h.before (g b);
    after = λ b. h.after (g b);
    ok = λ b o. h.ok (g b) o;
    is = λ b o. h.is (g b) o;
    puts = λ b p o. ap write (e b p) ∙ h.puts (g b) p o;
    starts = λ b o. h.starts (g b) o;
  }

-- one place of a table's places
flat_append : {A : Type 0} (enc : A → List ℕ) (a b : List A) → flat enc (a ++ b) ≡ flat enc a ++ flat enc b
unfolding flat
flat_append enc [] b = refl
flat_append enc (x ∷ a) b = ap (λ (l : List ℕ). enc x ++ l) (flat_append enc a b) ∙ sym (append_assoc (enc x) (flat enc a) (flat enc b))

module _ {w : ℕ} {A : Type 0} (n : ℕ) (s : Shape w A) (l : Long s) (k i : ℕ) (d : A) where
  pub row-part : Part (λ rs. ((rows n s k).ok rs ≡ true) × (i < k)) (rows n s k).write (λ rs. s) (i * w) (λ rs. get_or rs i d) (λ rs r. set rs i r)
  unfolding rows flat
  row-part = record {
    before = λ rs. flat s.write (take i rs);
    after = λ rs. flat s.write (drop (suc i) rs) ++ zeros (n * w - length rs * w);
    ok = λ rs h. every-at s.ok rs i d (rows_all n s k rs h.0) (here rs h);
    is = λ rs h. ap (λ (l : List A). flat s.write l ++ zeros (n * w - length rs * w)) (split_at rs i d (here rs h)) ∙ laid rs (get_or rs i d) (length rs);
    puts = λ rs r h. ap₂ (λ (l : List A) (j : ℕ). flat s.write l ++ zeros (n * w - j * w)) (set_split rs i r (here rs h)) (length-set rs i r) ∙ laid rs r (length rs);
    starts = λ rs h. length-flat s l (take i rs) (every_take s.ok rs i (rows_all n s k rs h.0)) ∙ ap (λ (j : ℕ). j * w) (length-take-le i rs (omega (arith, here rs h)));
  }
    where
      here : (rs : List A) → ((rows n s k).ok rs ≡ true) × (i < k) → i < length rs
      here rs h = omega (arith, h.1, rows-many n s k rs h.0)

      laid : (rs : List A) (r : A) (j : ℕ) → flat s.write (take i rs ++ (r ∷ drop (suc i) rs)) ++ zeros (n * w - j * w)
          ≡ flat s.write (take i rs) ++ (s.write r ++ (flat s.write (drop (suc i) rs) ++ zeros (n * w - j * w)))
      laid rs r j = ap (λ (l : List ℕ). l ++ zeros (n * w - j * w)) (flat_append s.write (take i rs) (r ∷ drop (suc i) rs)) ∙ simp append_assoc
