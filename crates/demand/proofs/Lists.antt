-- Lists: a property of every element, sums, and tests. Assumes nothing.
use Prim.Native.Nat.{ℕ, zero, suc, ◌+◌, ◌<◌}
use mathlib.Core.Path.{◌≡◌, refl, sym, ap, ap₂, subst⁻¹}
use mathlib.Core.Logic.{◌↔◌}
use mathlib.Core.Bool.{Bool, true, false, cond, ◌&&◌, ◌||◌, false≢true, and-false, or-true}
use mathlib.Core.List.{List, [], ◌∷◌, ◌++◌, map, Memᴰ}
use lib.ListN.{length, get_or}
use native.Mathlib.Omega.{arith}
use Rattle.rules.specs.Allowance.{All}
use Rattle.laws.specs.Folds.{any_of, sum_of, keep}

pub none-either : (b : Bool) → ◌≡◌ {A = ℕ} (cond b 0 0) 0
none-either true = refl
none-either false = refl

module _ {A : Type 0} where
  pub all-make : {P : A → Type 0} → ((a : A) → P a) → (xs : List A) → All P xs
  all-make f [] = tt
  all-make f (x ∷ xs) = (f x, all-make f xs)

  pub all-imp : {P Q : A → Type 0} → ((a : A) → P a → Q a) → (xs : List A) → All P xs → All Q xs
  all-imp f [] h = tt
  all-imp f (x ∷ xs) h = (f x h.0, all-imp f xs h.1)

  pub all-imp₂ : {P Q R : A → Type 0} → ((a : A) → P a → Q a → R a) → (xs : List A) → All P xs → All Q xs → All R xs
  all-imp₂ f [] h k = tt
  all-imp₂ f (x ∷ xs) h k = (f x h.0 k.0, all-imp₂ f xs h.1 k.1)

  pub all_map : {B : Type 0} (P : B → Type 0) (f : A → B) (xs : List A) → All (λ a. P (f a)) xs → All P (map f xs)
  all_map P f [] h = tt
  all_map P f (x ∷ xs) h = (h.0, all_map P f xs h.1)

  pub all-unmap : {B : Type 0} (P : B → Type 0) (f : A → B) (xs : List A) → All P (map f xs) → All (λ a. P (f a)) xs
  all-unmap P f [] h = tt
  all-unmap P f (x ∷ xs) h = (h.0, all-unmap P f xs h.1)

  pub all-mem : (P : A → Type 0) {x : A} (xs : List A) → Memᴰ x xs → All P xs → P x
  all-mem P xs (Memᴰ.head e) h = subst⁻¹ P e h.0
  all-mem P xs (Memᴰ.tail {xs = ys} m) h = all-mem P ys m h.1

  pub sum-append : (f : A → ℕ) (xs ys : List A) → sum_of f (xs ++ ys) ≡ sum_of f xs + sum_of f ys
  unfolding sum_of
  sum-append f [] ys = omega arith
  sum-append f (x ∷ xs) ys = rw (sum-append f xs ys) (omega arith)

  pub sum_one : (f : A → ℕ) (x : A) → sum_of f (x ∷ []) ≡ f x
  unfolding sum_of
  sum_one f x = omega arith

  pub sum-map : {B : Type 0} (g : A → B) (f : B → ℕ) (xs : List A) → sum_of f (map g xs) ≡ sum_of (λ a. f (g a)) xs
  unfolding sum_of
  sum-map g f [] = refl
  sum-map g f (x ∷ xs) = ap (λ n. f (g x) + n) (sum-map g f xs)

  pub sum-ext : {f g : A → ℕ} → ((a : A) → f a ≡ g a) → (xs : List A) → sum_of f xs ≡ sum_of g xs
  unfolding sum_of
  sum-ext h [] = refl
  sum-ext h (x ∷ xs) = ap₂ ◌+◌ (h x) (sum-ext h xs)

  pub sum-cond : (b : Bool) (f : A → ℕ) (xs : List A) → sum_of (λ a. cond b 0 (f a)) xs ≡ cond b 0 (sum_of f xs)
  unfolding sum_of
  sum-cond b f [] = sym (none-either b)
  sum-cond b f (x ∷ xs) = rw (sum-cond b f xs) (go b)
    where
      go : (b : Bool) → cond b 0 (f x) + cond b 0 (sum_of f xs) ≡ cond b 0 (f x + sum_of f xs)
      go true = refl
      go false = refl

  pub any_none : (p : A → Bool) → ((a : A) → p a ≡ false) → (xs : List A) → any_of p xs ≡ false
  unfolding any_of
  any_none p h [] = refl
  any_none p h (x ∷ xs) = rw (h x) (any_none p h xs)

  pub any-ext : {p q : A → Bool} → ((a : A) → p a ≡ q a) → (xs : List A) → any_of p xs ≡ any_of q xs
  unfolding any_of
  any-ext h [] = refl
  any-ext h (x ∷ xs) = ap₂ ◌||◌ (h x) (any-ext h xs)

  -- a test that only those pass which pass another too is looked for among these
  pub any-kept : (a c p : A → Bool) (xs : List A) → any_of (λ x. a x && (c x && p x)) xs ≡ any_of (λ (b : Bool). b) (map (λ x. a x && p x) (keep c xs))
  unfolding any_of keep
  any-kept a c p [] = refl
  any-kept a c p (x ∷ xs) = rw (any-kept a c p xs) (go (c x))
    where
      rest : List A
      rest = keep c xs

      go : (b : Bool)
          → ((a x && (b && p x)) || any_of (λ (b : Bool). b) (map (λ y. a y && p y) rest))
          ≡ any_of (λ (b : Bool). b) (map (λ y. a y && p y) (cond b (x ∷ rest) rest))
      go true = refl
      go false = rw (and-false (a x))

  -- some element of a list passes a test
  pub any-by : (p : A → Bool) (xs : List A) → (any_of p xs ≡ true) ↔ ((x : A) × Memᴰ x xs × (p x ≡ true))
  unfolding any_of
  any-by p xs = (find xs, λ w. held w.0 xs w.1 w.2)
    where
      find : (xs : List A) → any_of p xs ≡ true → (x : A) × Memᴰ x xs × (p x ≡ true)
      find [] e = absurd (false≢true e)
      find (x ∷ xs) e = go (p x) refl (find xs) e
        where
          go : (b : Bool) → p x ≡ b → (any_of p xs ≡ true → (y : A) × Memᴰ y xs × (p y ≡ true)) → (b || any_of p xs) ≡ true
              → (y : A) × Memᴰ y (x ∷ xs) × (p y ≡ true)
          go true ex ih e = (x, Memᴰ.head refl, ex)
          go false ex ih e = let w = ih e in (w.0, Memᴰ.tail w.1, w.2)

      held : (x : A) (xs : List A) → Memᴰ x xs → p x ≡ true → any_of p xs ≡ true
      held x xs (Memᴰ.head e) h = rw (← e, h)
      held x xs (Memᴰ.tail {x = y} {xs = ys} m) h = rw (held x ys m h) (or-true (p y))

  pub all-get : (P : A → Type 0) (xs : List A) (i : ℕ) (d : A) → i < length xs → All P xs → P (get_or xs i d)
  all-get P [] i d h a = absurd (omega arith)
  all-get P (x ∷ xs) zero d h a = a.0
  all-get P (x ∷ xs) (suc i) d h a = all-get P xs i d (omega arith) a.1

  pub get-map : {B : Type 0} (f : A → B) (xs : List A) (i : ℕ) (d : A) → f (get_or xs i d) ≡ get_or (map f xs) i (f d)
  get-map f [] i d = refl
  get-map f (x ∷ xs) zero d = refl
  get-map f (x ∷ xs) (suc i) d = get-map f xs i d
