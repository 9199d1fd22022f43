-- Laws of a test that every element of a list passes. Assumes nothing.
use Prim.Native.Nat.{ℕ, zero, suc, ◌<◌}
use mathlib.Core.Path.{◌≡◌, refl, ap}
use mathlib.Core.Bool.{Bool, true, false, cond, ◌&&◌}
use mathlib.Core.List.{List, [], ◌∷◌, ◌++◌, map}
use native.Mathlib.Nat.{not-suc-le-zero, le_of_suc-le-suc}
use lib.ListN.{length, get_or, take, drop}
use Rattle.laws.proofs.Tests.{and_l, and_r, and_i}
use Rattle.laws.specs.Folds.{every, keep}

module _ {A : Type 0} (ok : A → Bool) where
  -- the first passes, and so do the others
  pub every_first : (x : A) (xs : List A) → every ok (x ∷ xs) ≡ true → ok x ≡ true
  unfolding every
  every_first x xs h = and_l (ok x) (every ok xs) h

  pub every_rest : (x : A) (xs : List A) → every ok (x ∷ xs) ≡ true → every ok xs ≡ true
  unfolding every
  every_rest x xs h = and_r (ok x) (every ok xs) h

  -- what stands at a place passes
  pub every-at : (xs : List A) (i : ℕ) (d : A) → every ok xs ≡ true → i < length xs → ok (get_or xs i d) ≡ true
  every-at [] i d h l = absurd (not-suc-le-zero l)
  every-at (x ∷ xs) zero d h l = every_first x xs h
  every-at (x ∷ xs) (suc i) d h l = every-at xs i d (every_rest x xs h) (le_of_suc-le-suc l)

  -- parts of a list, and a list put together
  pub every_take : (xs : List A) (i : ℕ) → every ok xs ≡ true → every ok (take i xs) ≡ true
  unfolding every
  every_take xs zero h = refl
  every_take [] (suc i) h = refl
  every_take (x ∷ xs) (suc i) h = and_i (every_first x xs h) (every_take xs i (every_rest x xs h))

  pub every_drop : (xs : List A) (i : ℕ) → every ok xs ≡ true → every ok (drop i xs) ≡ true
  every_drop xs zero h = h
  every_drop [] (suc i) h = h
  every_drop (x ∷ xs) (suc i) h = every_drop xs i (every_rest x xs h)

  pub every_append : (xs ys : List A) → every ok xs ≡ true → every ok ys ≡ true → every ok (xs ++ ys) ≡ true
  unfolding every
  every_append [] ys h k = k
  every_append (x ∷ xs) ys h k = and_i (every_first x xs h) (every_append xs ys (every_rest x xs h) k)

  pub every-join : (xs : List A) (x : A) → every ok xs ≡ true → ok x ≡ true → every ok (xs ++ (x ∷ [])) ≡ true
  unfolding every
  every-join xs x h k = every_append xs (x ∷ []) h (and_i k refl)

  pub every-keep : (test : A → Bool) (xs : List A) → every ok xs ≡ true → every ok (keep test xs) ≡ true
  unfolding every keep
  every-keep test [] h = refl
  every-keep test (x ∷ xs) h = go (test x) (every-keep test xs (every_rest x xs h))
    where
      go : (b : Bool) → every ok (keep test xs) ≡ true → every ok (cond b (x ∷ keep test xs) (keep test xs)) ≡ true
      go true k = and_i (every_first x xs h) k
      go false k = k

  -- a weaker test
  pub every-imp : (good : A → Bool) → ((x : A) → ok x ≡ true → good x ≡ true) → (xs : List A) → every ok xs ≡ true → every good xs ≡ true
  unfolding every
  every-imp good f [] h = refl
  every-imp good f (x ∷ xs) h = and_i (f x (every_first x xs h)) (every-imp good f xs (every_rest x xs h))

pub every_map : {A B : Type 0} (ok : B → Bool) (f : A → B) (xs : List A) → every ok (map f xs) ≡ every (λ x. ok (f x)) xs
unfolding every
every_map ok f [] = refl
every_map ok f (x ∷ xs) = ap (λ (b : Bool). ok (f x) && b) (every_map ok f xs)
