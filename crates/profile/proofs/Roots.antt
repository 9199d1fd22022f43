-- The roots with one name more: which number it gets, and what stays of the others. Assumes nothing.
use Prim.Native.Nat.{ℕ, zero, suc, ◌+◌, ◌≤◌, ◌<◌, max}
use mathlib.Core.Path.{◌≡◌, refl, ap, ◌∙◌}
use mathlib.Core.Bool.{Bool, true, false, cond}
use mathlib.Core.List.{List, [], ◌∷◌, ◌++◌}
use lib.ListN.{length, get_or, length-append, get_or-append}
use lib.Dec.{eqb}
use borrow.Author.Tests.{eqb-true, eq-eqb, lt-ltb, le-ltb}
use native.Mathlib.Decide.{dec_lt}
use native.Mathlib.Omega.{arith}
use Rattle.text.specs.Text.{index_of}
use Rattle.text.proofs.Lists.{index-le}
use Rattle.profile.specs.Profile.{with_root}
use Rattle.profile.specs.Inner.Lawful.{IsNameNumber}

-- a name that is there stands at its index
index_at : (b : ℕ) (s : List ℕ) → index_of b s < length s → get_or s (index_of b s) 0 ≡ b
unfolding index_of
index_at b [] h = absurd (omega arith)
index_at b (x ∷ xs) h = go (eqb x b) refl (index_at b xs) h
  where
    go : (t : Bool) → eqb x b ≡ t → (index_of b xs < length xs → get_or xs (index_of b xs) 0 ≡ b) → cond t zero (suc (index_of b xs)) < suc (length xs) → get_or (x ∷ xs) (cond t zero (suc (index_of b xs))) 0 ≡ b
    go true e more k = eqb-true x b e
    go false e more k = more (omega arith)

-- what follows a name does not move it, and a name that is not there comes after all
index-found : (b : ℕ) (s t : List ℕ) → index_of b s < length s → index_of b (s ++ t) ≡ index_of b s
unfolding index_of
index-found b [] t h = absurd (omega arith)
index-found b (x ∷ xs) t h = go (eqb x b) (index-found b xs t) h
  where
    go : (q : Bool) → (index_of b xs < length xs → index_of b (xs ++ t) ≡ index_of b xs) → cond q zero (suc (index_of b xs)) < suc (length xs) → cond q zero (suc (index_of b (xs ++ t))) ≡ cond q zero (suc (index_of b xs))
    go true more k = refl
    go false more k = ap suc (more (omega arith))

index-new : (b : ℕ) (s : List ℕ) → length s ≤ index_of b s → index_of b (s ++ (b ∷ [])) ≡ length s
unfolding index_of
index-new b [] h = rw (eq-eqb b b refl)
index-new b (x ∷ xs) h = go (eqb x b) (index-new b xs) h
  where
    go : (q : Bool) → (length xs ≤ index_of b xs → index_of b (xs ++ (b ∷ [])) ≡ length xs) → suc (length xs) ≤ cond q zero (suc (index_of b xs)) → cond q zero (suc (index_of b (xs ++ (b ∷ [])))) ≡ suc (length xs)
    go true more k = absurd (omega arith)
    go false more k = ap suc (more (omega arith))

module _ (name : ℕ) (roots : List ℕ) where
  with-old : index_of name roots < length roots → with_root name roots ≡ roots
  unfolding with_root
  with-old h = rw (lt-ltb (index_of name roots) (length roots) h)

  with-new : length roots ≤ index_of name roots → with_root name roots ≡ roots ++ (name ∷ [])
  unfolding with_root
  with-new h = rw (le-ltb (index_of name roots) (length roots) h)

  -- its number is the place of its name, or the next number
  pub with-index : index_of name (with_root name roots) ≡ index_of name roots
  with-index = go (dec_lt (index_of name roots) (length roots))
    where
      go : Dec (index_of name roots < length roots) → index_of name (with_root name roots) ≡ index_of name roots
      go (yes h) = rw (with-old h)
      go (no h) = rw (with-new (omega arith), index-new name roots (omega arith)) (omega (arith, index-le name roots))

  pub with-length : length (with_root name roots) ≡ max (length roots) (index_of name roots + 1)
  with-length = go (dec_lt (index_of name roots) (length roots))
    where
      go : Dec (index_of name roots < length roots) → length (with_root name roots) ≡ max (length roots) (index_of name roots + 1)
      go (yes h) = rw (with-old h) (omega arith)
      go (no h) = rw (with-new (omega arith), length-append) (omega (arith, index-le name roots))

  -- the roots have grown by the name, or stayed as they were
  pub with-kept : length (with_root name roots) ≡ length roots → with_root name roots ≡ roots
  with-kept e = with-old (omega (arith, with-length))

  pub with-grown : (length (with_root name roots) ≡ length roots → ⊥) → with_root name roots ≡ roots ++ (name ∷ [])
  with-grown d = go (dec_lt (index_of name roots) (length roots))
    where
      go : Dec (index_of name roots < length roots) → with_root name roots ≡ roots ++ (name ∷ [])
      go (yes h) = absurd (d (ap length (with-old h)))
      go (no h) = with-new (omega arith)

  with-get_or : (root : ℕ) → root < length roots → get_or (with_root name roots) root 0 ≡ get_or roots root 0
  with-get_or root k = go (dec_lt (index_of name roots) (length roots))
    where
      go : Dec (index_of name roots < length roots) → get_or (with_root name roots) root 0 ≡ get_or roots root 0
      go (yes h) = rw (with-old h)
      go (no h) = rw (with-new (omega arith)) (get_or-append roots (name ∷ []) 0 root k)

  with-keeps : (other : ℕ) → index_of other roots < length roots → index_of other (with_root name roots) ≡ index_of other roots
  with-keeps other k = go (dec_lt (index_of name roots) (length roots))
    where
      go : Dec (index_of name roots < length roots) → index_of other (with_root name roots) ≡ index_of other roots
      go (yes h) = rw (with-old h)
      go (no h) = rw (with-new (omega arith)) (index-found other roots (name ∷ []) k)

  -- the name stands at its number
  with_at : get_or (with_root name roots) (index_of name roots) 0 ≡ name
  with_at = rw with-index at (index_at name (with_root name roots) (rw with-index (omega (arith, with-length))))

  -- a root is an old one, or the new name at its own index
  with_cases : (P : ℕ → Type 0) → ((root : ℕ) → root < length roots → P root) → P (index_of name roots)
      → (root : ℕ) → root < length (with_root name roots) → P root
  with_cases P old new root h = go (dec_lt root (length roots))
    where
      go : Dec (root < length roots) → P root
      go (yes k) = old root k
      go (no k) =
          let last : index_of name roots ≡ root = omega (arith, with-length, index-le name roots) in
          rw last at new

  pub with-named : ((root : ℕ) → root < length roots → IsNameNumber 1 6 (get_or roots root 0)) → IsNameNumber 1 6 name
      → (root : ℕ) → root < length (with_root name roots) → IsNameNumber 1 6 (get_or (with_root name roots) root 0)
  with-named old new =
      with_cases (λ root. IsNameNumber 1 6 (get_or (with_root name roots) root 0)) (λ root h. rw (with-get_or root h) (old root h)) (rw with_at new)

  pub with-placed : ((root : ℕ) → root < length roots → index_of (get_or roots root 0) roots ≡ root)
      → (root : ℕ) → root < length (with_root name roots) → index_of (get_or (with_root name roots) root 0) (with_root name roots) ≡ root
  with-placed old =
      with_cases (λ root. index_of (get_or (with_root name roots) root 0) (with_root name roots) ≡ root)
      (λ root h. rw (with-get_or root h) (with-keeps (get_or roots root 0) (rw (old root h) h) ∙ old root h))
      (rw with_at with-index)
