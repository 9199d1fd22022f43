-- Laws of bytes that all have a property. Assumes nothing.
use Prim.Native.Nat.{ℕ, zero, suc, ◌≤◌, ◌<◌}
use mathlib.Core.Path.{◌≡◌, refl, sym, ap, ◌∙◌}
use mathlib.Core.Bool.{Bool, true, ◌&&◌, and_assoc}
use mathlib.Core.List.{List, [], ◌∷◌, ◌++◌, map}
use lib.ListN.{length, get_or}
use borrow.Author.Tests.{le-leb}
use native.Mathlib.Omega.{arith}
use Rattle.laws.proofs.Tests.{and_l, and_r, and_i, tests}
use Rattle.text.specs.Text.{all, made}

module _ (p : ℕ → Bool) where
  pub all_join : (a b : List ℕ) → all p (a ++ b) ≡ (all p a && all p b)
  unfolding all
  all_join [] b = refl
  all_join (x ∷ a) b = ap (λ t. p x && t) (all_join a b) ∙ sym (and_assoc (p x) (all p a) (all p b))

  pub all_append : (a b : List ℕ) → all p a ≡ true → all p b ≡ true → all p (a ++ b) ≡ true
  all_append a b h k = all_join a b ∙ and_i h k

  pub all-at : (s : List ℕ) → all p s ≡ true → (i d : ℕ) → p d ≡ true → p (get_or s i d) ≡ true
  unfolding all
  all-at [] h i d k = k
  all-at (x ∷ s) h zero d k = and_l (p x) (all p s) h
  all-at (x ∷ s) h (suc i) d k = all-at s (and_r (p x) (all p s) h) i d k

  pub all_in : (s : List ℕ) → all p s ≡ true → (i d : ℕ) → i < length s → p (get_or s i d) ≡ true
  unfolding all
  all_in [] h i d l = absurd (omega arith)
  all_in (x ∷ s) h zero d l = and_l (p x) (all p s) h
  all_in (x ∷ s) h (suc i) d l = all_in s (and_r (p x) (all p s) h) i d (omega arith)

  pub all_map : (f : ℕ → ℕ) (s : List ℕ) → all p (map f s) ≡ all (λ x. p (f x)) s
  unfolding all
  all_map f [] = refl
  all_map f (x ∷ s) = ap (λ t. p (f x) && t) (all_map f s)

  -- so many bytes, each with the property, as a test and as facts
  module _ (least most : ℕ) (s : List ℕ) where
    pub made_of : least ≤ length s → length s ≤ most → all p s ≡ true → made p least most s ≡ true
    unfolding made
    made_of h k a = rw (le-leb least (length s) h, le-leb (length s) most k, a)

    pub made-least : made p least most s ≡ true → least ≤ length s
    unfolding made
    made-least h = search tests

    pub made-most : made p least most s ≡ true → length s ≤ most
    unfolding made
    made-most h = search tests

    pub made_all : made p least most s ≡ true → all p s ≡ true
    unfolding made
    made_all h = search tests

-- a weaker property
pub all_weaker : {p q : ℕ → Bool} → ((x : ℕ) → p x ≡ true → q x ≡ true) → (s : List ℕ) → all p s ≡ true → all q s ≡ true
unfolding all
all_weaker f [] h = refl
all_weaker {p} f (x ∷ s) h = and_i (f x (and_l (p x) (all p s) h)) (all_weaker f s (and_r (p x) (all p s) h))
