-- The first places of a table pass a test, each by itself and one after the other. Assumes nothing.
use Prim.Native.Nat.{ℕ, zero, suc, ◌+◌, ◌*◌, ◌-◌, ◌<◌}
use mathlib.Core.Path.{◌≡◌, refl, sym, ap, ap₂, ◌∙◌}
use mathlib.Core.Bool.{Bool, true, ◌&&◌}
use mathlib.Core.List.{List, ◌∷◌}
use native.Mathlib.Nat.{not-suc-le-zero, le_of_suc-le-suc, suc-mul, zero-mul, add-mul, one-mul}
use native.Mathlib.Omega.{arith}
use lib.ListN.{drop}
use lib.Seq.{drop-drop}
use Rattle.laws.proofs.Tests.{and_l, and_r}
use Rattle.tables.specs.Inner.Tables.{places, places_pass}

-- the first k places pass a test exactly if each of them does
pub pass-each : (w : ℕ) (test : List ℕ → Bool) (k : ℕ) (xs : List ℕ) → places_pass w test k xs ≡ true → (i : ℕ) → i < k → test (drop (i * w) xs) ≡ true
unfolding places_pass
pass-each w test zero xs h i l = absurd (not-suc-le-zero l)
pass-each w test (suc k) xs h zero l = ap (λ (n : ℕ). test (drop n xs)) (zero-mul w) ∙ and_l (test xs) (places_pass w test k (drop w xs)) h
pass-each w test (suc k) xs h (suc i) l =
    let p : w + i * w ≡ suc i * w = omega (arith, suc-mul i w) in
    ap test (sym (drop-drop (i * w) w xs ∙ ap (λ (n : ℕ). drop n xs) p))
    ∙ pass-each w test k (drop w xs) (and_r (test xs) (places_pass w test k (drop w xs)) h) i (le_of_suc-le-suc l)

pub each-pass : (w : ℕ) (test : List ℕ → Bool) (k : ℕ) (xs : List ℕ) → ((i : ℕ) → i < k → test (drop (i * w) xs) ≡ true) → places_pass w test k xs ≡ true
unfolding places_pass
each-pass w test zero xs h = refl
each-pass w test (suc k) xs h =
    ap₂ (λ (p q : Bool). p && q) (ap (λ (n : ℕ). test (drop n xs)) (sym (zero-mul w)) ∙ h 0 (omega arith))
    (each-pass w test k (drop w xs)
    (λ i l. let p : w + i * w ≡ suc i * w = omega (arith, suc-mul i w) in
    ap test (drop-drop (i * w) w xs ∙ ap (λ (n : ℕ). drop n xs) p) ∙ h (suc i) (omega arith)))

-- from place i on, of the first k: the test of place i, then of those after it; and the record there, then those after it
module _ (w k i : ℕ) (xs : List ℕ) (more : i < k) where
  left : k - i ≡ suc (k - (i + 1))
  left = omega arith

  step : drop w (drop (i * w) xs) ≡ drop ((i + 1) * w) xs
  step =
      let p : i * w + w ≡ (i + 1) * w = omega (arith, add-mul i 1 w, one-mul w) in
      drop-drop w (i * w) xs ∙ ap (λ (n : ℕ). drop n xs) p

  pub pass_on : (test : List ℕ → Bool) → places_pass w test (k - i) (drop (i * w) xs) ≡ (test (drop (i * w) xs) && places_pass w test (k - (i + 1)) (drop ((i + 1) * w) xs))
  unfolding places_pass
  pass_on test = rw (left, step)

  pub places-on : {A : Type 0} (dec : List ℕ → A) → places w dec (k - i) (drop (i * w) xs) ≡ dec (drop (i * w) xs) ∷ places w dec (k - (i + 1)) (drop ((i + 1) * w) xs)
  unfolding places
  places-on dec = rw (left, step)
