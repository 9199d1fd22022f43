-- Places of an exact shape: read, written and tested. Assumes nothing.
use Prim.Native.Nat.{ℕ, zero, suc, ◌+◌, ◌*◌, ◌≤◌}
use mathlib.Core.Path.{◌≡◌, refl, sym, ap, ap₂, ◌∙◌}
use mathlib.Core.Bool.{Bool, true, ◌&&◌}
use mathlib.Core.List.{List, [], ◌∷◌, ◌++◌, append_assoc}
use native.Mathlib.Nat.{suc-mul, zero-mul}
use native.Mathlib.Omega.{arith}
use lib.Dec.{eqb}
use lib.ListN.{length, take, drop, length-append, length-drop, length-replicate}
use lib.Seq.{drop_at, take-add}
use borrow.Author.Tests.{eqb-true}
use Rattle.laws.proofs.Tests.{and_l, and_r}
use Rattle.shapes.specs.Tables.{zeros, all_zero, flat, places, places_pass}
use Rattle.laws.specs.Folds.{every}
use Rattle.shapes.specs.Shape.{Shape, Exact, Long}

pub length-zeros : (n : ℕ) → length (zeros n) ≡ n
unfolding zeros
length-zeros n = length-replicate n 0

pub all-zeros : (n : ℕ) → all_zero (zeros n) ≡ true
unfolding zeros all_zero
all-zeros zero = refl
all-zeros (suc n) = all-zeros n

pub zeros-all : (s : List ℕ) → all_zero s ≡ true → s ≡ zeros (length s)
unfolding zeros all_zero
zeros-all [] h = refl
zeros-all (x ∷ s) h =
    ap₂ (λ (y : ℕ) (ys : List ℕ). y ∷ ys) (eqb-true x 0 (and_l (eqb x 0) (all_zero s) h)) (zeros-all s (and_r (eqb x 0) (all_zero s) h))

pub length-places : {A : Type 0} (w : ℕ) (dec : List ℕ → A) (k : ℕ) (xs : List ℕ) → length (places w dec k xs) ≡ k
unfolding places
length-places w dec zero xs = refl
length-places w dec (suc k) xs = ap suc (length-places w dec k (drop w xs))

pub length-flat : {w : ℕ} {A : Type 0} (s : Shape w A) → Long s → (rs : List A) → every s.ok rs ≡ true → length (flat s.write rs) ≡ length rs * w
unfolding flat every
length-flat {w} s l [] h = sym (zero-mul w)
length-flat {w} s l (r ∷ rs) h =
    omega (
      arith,
      length-append (s.write r) (flat s.write rs),
      l r (and_l (s.ok r) (every s.ok rs) h),
      length-flat s l rs (and_r (s.ok r) (every s.ok rs) h),
      suc-mul (length rs) w,
    )

module _ {w : ℕ} {A : Type 0} {s : Shape w A} (e : Exact s) where
  after : (r : A) (rs : List A) (rest : List ℕ) → s.ok r ≡ true → drop w ((s.write r ++ flat s.write rs) ++ rest) ≡ flat s.write rs ++ rest
  after r rs rest h = ap (drop w) (append_assoc (s.write r) (flat s.write rs) rest) ∙ drop_at (s.write r) _ w (e.long r h)

  pub places-flat : (rs : List A) (rest : List ℕ) → every s.ok rs ≡ true → places w s.read (length rs) (flat s.write rs ++ rest) ≡ rs
  unfolding flat places every
  places-flat [] rest h = refl
  places-flat (r ∷ rs) rest h =
      let o = and_l (s.ok r) (every s.ok rs) h in
      ap₂ (λ (x : A) (l : List A). x ∷ l) (ap s.read (append_assoc (s.write r) (flat s.write rs) rest) ∙ e.back r _ o)
      (ap (places w s.read (length rs)) (after r rs rest o) ∙ places-flat rs rest (and_r (s.ok r) (every s.ok rs) h))

  pub pass-flat : (rs : List A) (rest : List ℕ) → every s.ok rs ≡ true → places_pass w s.test (length rs) (flat s.write rs ++ rest) ≡ true
  unfolding flat places_pass every
  pass-flat [] rest h = refl
  pass-flat (r ∷ rs) rest h =
      let o = and_l (s.ok r) (every s.ok rs) h in
      ap₂ (λ (p q : Bool). p && q) (ap s.test (append_assoc (s.write r) (flat s.write rs) rest) ∙ e.pass r _ o)
      (ap (places_pass w s.test (length rs)) (after r rs rest o) ∙ pass-flat rs rest (and_r (s.ok r) (every s.ok rs) h))

  room : (k : ℕ) (xs : List ℕ) → suc k * w ≤ length xs → (w ≤ length xs) × (k * w ≤ length (drop w xs))
  room k xs l = (omega (arith, suc-mul k w), omega (arith, suc-mul k w, length-drop w xs))

  pub every-places : (k : ℕ) (xs : List ℕ) → k * w ≤ length xs → places_pass w s.test k xs ≡ true → every s.ok (places w s.read k xs) ≡ true
  unfolding places places_pass every
  every-places zero xs l h = refl
  every-places (suc k) xs l h =
      let r = room k xs l in
      ap₂ (λ (p q : Bool). p && q) (e.valid xs r.0 (and_l (s.test xs) _ h)) (every-places k (drop w xs) r.1 (and_r (s.test xs) _ h))

  pub flat-places : (k : ℕ) (xs : List ℕ) → k * w ≤ length xs → places_pass w s.test k xs ≡ true → flat s.write (places w s.read k xs) ≡ take (k * w) xs
  unfolding places places_pass flat
  flat-places zero xs l h = sym (ap (λ (n : ℕ). take n xs) (zero-mul w))
  flat-places (suc k) xs l h =
      let r = room k xs l in
      let p : w + k * w ≡ suc k * w = omega (arith, suc-mul k w) in
      ap₂ (λ (a b : List ℕ). a ++ b) (e.same xs r.0 (and_l (s.test xs) _ h)) (flat-places k (drop w xs) r.1 (and_r (s.test xs) _ h))
      ∙ sym (take-add w (k * w) xs) ∙ ap (λ (n : ℕ). take n xs) p
