-- The lent tables as the loops read them: a root's name, and the lines of the rules from a place on. Assumes nothing.
use Prim.Native.Nat.{ℕ, ◌+◌, ◌<◌}
use mathlib.Core.Path.{◌≡◌, refl, sym, ap, ◌∙◌}
use mathlib.Core.List.{List}
use lib.ListN.{length, get_or, take, drop, length-take}
use lib.Seq.{get_or-take, get_or-drop}
use borrow.Author.Tests.{ltb-true}
use native.Mathlib.Nat.{add_comm}
use native.Mathlib.Omega.{arith}
use Rattle.laws.proofs.Tests.{and_l}
use Rattle.rules.specs.declared.Scope.TheVariants.{EveryFill, WholeRoot, OneUnit}
use Rattle.rules.specs.Valid.{is_scope}
use Rattle.text.specs.Digits.{digits_up_to, name_bytes}
use Rattle.writing.specs.Writing.{root_text}
use Rattle.writing.specs.Inner.Parts.{names_of, KnownScope}

module _ (roots : List ℕ) where
  -- a root that is known stands in the table
  pub names-few : (root : ℕ) → root < length (names_of roots) → root < 64
  names-few root h = omega (arith, length-take (get_or roots 0 0) (take 64 (drop 1 roots)), length-take 64 (drop 1 roots))

  name-at : (root : ℕ) → root < length (names_of roots) → get_or roots (root + 1) 0 ≡ get_or (names_of roots) root 0
  name-at root h =
      let n = get_or roots 0 0 in
      let in_count : root < n = omega (arith, length-take n (take 64 (drop 1 roots))) in
      sym (get_or-take n (take 64 (drop 1 roots)) root 0 in_count ∙ get_or-take 64 (drop 1 roots) root 0 (names-few root h)
      ∙ get_or-drop 1 roots root 0 ∙ ap (λ (i : ℕ). get_or roots i 0) (add_comm 1 root))

  pub whole-known : {root : ℕ} → KnownScope roots (WholeRoot root) → root < length (names_of roots)
  unfolding is_scope
  whole-known {root} k = ltb-true root (length (names_of roots)) k.known

  pub unit-known : {root unit : ℕ} → KnownScope roots (OneUnit root unit) → root < length (names_of roots)
  unfolding is_scope
  unit-known {root} k = ltb-true root (length (names_of roots)) (and_l _ _ k.known)

  -- its name
  pub none_named : name_bytes 0 ≡ root_text (names_of roots) EveryFill
  unfolding name_bytes digits_up_to root_text
  none_named = refl

  pub whole-named : (root : ℕ) → root < length (names_of roots) → name_bytes (get_or roots (root + 1) 0) ≡ root_text (names_of roots) (WholeRoot root)
  unfolding root_text
  whole-named root h = ap name_bytes (name-at root h)

  pub unit-named : (root unit : ℕ) → root < length (names_of roots) → name_bytes (get_or roots (root + 1) 0) ≡ root_text (names_of roots) (OneUnit root unit)
  unfolding root_text
  unit-named root unit h = ap name_bytes (name-at root h)
