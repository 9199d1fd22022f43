-- Names from the last one on, marked by a remainder: a name whose remainder is not marked stands among none of them. Assumes nothing.
use Prim.Native.Nat.{ℕ, zero, suc, ◌+◌, ◌-◌, ◌%◌, ◌≤◌, ◌<◌}
use mathlib.Core.Path.{◌≡◌, refl, sym, ap, ◌∙◌}
use mathlib.Core.Bool.{Bool, true, false, ◌&&◌, and-true, and-false}
use mathlib.Core.List.{List, ◌∷◌}
use native.Mathlib.Omega.{arith}
use native.Mathlib.Numerals.{add-one}
use lib.ListN.{length, get_or, drop, set, replicate, length-set}
use lib.Seq.{get_or-set_same, get_or-set_other}
use Rattle.laws.proofs.Lists.{from}
use borrow.Author.Tests.{ne_eqb}
use Rattle.tables.specs.Inner.Tables.{all_zero}
use Rattle.given.specs.Names.{is_name_number}
use Rattle.given.specs.Given.{is_fresh, are_roots}
use Rattle.given.specs.Parts.{names_hold}
use Rattle.given.proofs.Places.{names_from, roots-start}

pub record Marked (marks : List Bool) (names : List ℕ) : Type 0 where
  pub long : length marks ≡ 256
  pub new : (name : ℕ) → get_or marks (name % 229) false ≡ false → is_fresh name names ≡ true

pub marked_start : (n : ℕ) (xs : List ℕ) → Marked (replicate 256 false) (names_from n xs n)
unfolding is_fresh
marked_start n xs = let z : n - n ≡ 0 = omega arith in rw z (record { long = refl; new = λ name h. refl })

marked_more : {marks : List Bool} {names : List ℕ} → Marked marks names → (y : ℕ) → Marked (set marks (y % 229) true) (y ∷ names)
unfolding is_fresh
marked_more {marks} {names} m y = record {
  long = length-set marks (y % 229) true ∙ m.long;
  new = λ name h.
      let here = get_or-set_same marks (y % 229) true false (omega (arith, m.long)) in
      let apart : name % 229 ≡ y % 229 → ⊥ =
      λ e. let both : true ≡ false = sym here ∙ (ap (λ (r : ℕ). get_or (set marks (y % 229) true) r false) (sym e) ∙ h) in cc
      in
      let before : get_or marks (name % 229) false ≡ false = sym (get_or-set_other marks (y % 229) (name % 229) true false apart) ∙ h in
      rw (ne_eqb y name (λ e. apart (ap (λ (k : ℕ). k % 229) (sym e)))) (m.new name before);
}

module _ (n : ℕ) (xs : List ℕ) (within : n ≤ length xs) where
  module _ (j i : ℕ) (e : i ≡ j + 1) (more : j < n) where
    names-back : names_from n xs j ≡ get_or xs j 0 ∷ names_from n xs i
    names-back = let left : n - j ≡ suc (n - i) = omega arith in rw (left, from xs j (omega arith), e)

    pub marked-back : {marks : List Bool} → Marked marks (names_from n xs i) → Marked (set marks (get_or xs j 0 % 229) true) (names_from n xs j)
    marked-back m = rw names-back (marked_more m (get_or xs j 0))

    roots-back : are_roots (names_from n xs j) ≡ (is_name_number 1 6 (get_or xs j 0) && is_fresh (get_or xs j 0) (names_from n xs i) && are_roots (names_from n xs i))
    unfolding are_roots
    roots-back = rw names-back

    pub back_on : are_roots (names_from n xs i) ≡ true → {named fresh b : Bool} → named ≡ is_name_number 1 6 (get_or xs j 0)
        → fresh ≡ is_fresh (get_or xs j 0) (names_from n xs i) → (named && fresh) ≡ b → are_roots (names_from n xs j) ≡ b
    back_on r p q h = roots-back ∙ rw (← p, ← q, r, h) (and-true _)

  pub roots-late : (i : ℕ) → i ≤ n → are_roots (names_from n xs i) ≡ false → are_roots (names_from n xs 0) ≡ false
  roots-late zero h e = e
  roots-late (suc i) h e = roots-late i (omega arith) (roots-back i (suc i) (sym (add-one i)) (omega arith) ∙ rw (e, and-false))

  pub late : (i : ℕ) → i ≤ n → are_roots (names_from n xs i) ≡ false → false ≡ names_hold n xs
  late i h e = sym (roots-start n xs ∙ ap (λ (b : Bool). b && all_zero (drop n xs)) (roots-late i h e))
