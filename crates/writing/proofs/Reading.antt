-- Reading the lines of rules one after the other gives the roots and the rules that they were written for. Assumes nothing.
use Prim.Native.Nat.{ℕ, suc, ◌+◌, ◌≤◌, ◌<◌, min, max}
use mathlib.Core.Path.{◌≡◌, refl, sym, ap, ◌∙◌}
use mathlib.Core.Bool.{true, false, cond}
use mathlib.Core.List.{List, [], ◌∷◌, ◌++◌, map, append-nil}
use lib.ListN.{length, get_or, take, length-append, length-take}
use lib.Seq.{take-suc, take-length, length-take-le, append_snoc}
use lib.Dec.{ltb}
use borrow.Author.Tests.{lt-ltb, le-ltb, eqb-true, not-true}
use native.Mathlib.Decide.{dec_lt}
use native.Mathlib.Nat.{max-eq_left}
use native.Mathlib.Omega.{arith}
use Rattle.laws.proofs.Tests.{tests}
use Rattle.rules.specs.declared.Scope.{Scope}
use Rattle.rules.specs.declared.Scope.TheVariants.{EveryFill, WholeRoot, OneUnit}
use Rattle.rules.specs.declared.Rule.{Rule}
use Rattle.text.specs.Text.{index_of}
use Rattle.laws.specs.Folds.{every}
use Rattle.rules.specs.Valid.{is_scope, is_rule}
use Rattle.machine.specs.State.{Profile}
use Rattle.admission.specs.Admission.{crowded, seen_after, is_next, are_in_order}
use Rattle.profile.specs.Profile.{with_root, roots_with, numbered, joined, too_many, after_line, read_on}
use Rattle.given.specs.Names.{is_name_number}
use Rattle.given.specs.Given.{are_roots}
use Rattle.writing.specs.Writing.{line_text}
use Rattle.given.proofs.Order.{rule-scope}
use Rattle.laws.proofs.Every.{every_first, every_rest}
use Rattle.writing.proofs.Roots.{root-index}
use Rattle.writing.proofs.Fields.{named, with_name}
use Rattle.writing.proofs.Line.{line-back}

-- the roots and the scope after a line, of the roots that have appeared before it
record Joins (roots : List ℕ) (scope : Scope) (seen : ℕ) : Type 0 where
  grown : roots_with (named roots scope) (take seen roots) ≡ take (seen_after scope seen) roots
  back : numbered (take (seen_after scope seen) roots) (named roots scope) ≡ scope
  within : seen_after scope seen ≤ length roots

module _ (roots : List ℕ) (h : are_roots roots ≡ true) where
  -- with the name of a root that has appeared, or of the next one, the first roots are the roots up to it
  module _ (r seen : ℕ) (l : r < length roots) (near : r ≤ seen) (within : seen ≤ length roots) where
    root-grown : with_root (get_or roots r 0) (take seen roots) ≡ take (max seen (suc r)) roots
    unfolding with_root
    root-grown = rw (root-index roots r seen h l, length-take-le seen roots within) (go (dec_lt r seen))
      where
        go : Dec (r < seen) → cond (ltb (min r seen) seen) (take seen roots) (take seen roots ++ (get_or roots r 0 ∷ [])) ≡ take (max seen (suc r)) roots
        go (yes k) = rw (lt-ltb (min r seen) seen (omega arith), max-eq_left k)
        go (no k) =
            let here : seen ≡ r = omega arith in
            let last : max seen (suc r) ≡ suc r = omega arith in
            rw (le-ltb (min r seen) seen (omega arith), last, here) (sym (take-suc roots r 0 l))

    root-back : index_of (get_or roots r 0) (take (max seen (suc r)) roots) ≡ r
    root-back = root-index roots r (max seen (suc r)) h l ∙ omega arith

  joins : (scope : Scope) (seen : ℕ) → seen ≤ length roots → is_scope (length roots) scope ≡ true → is_next scope seen ≡ true → Joins roots scope seen
  unfolding is_scope is_next seen_after roots_with numbered named
  joins EveryFill seen w s n = record { grown = refl; back = refl; within = w }
  joins (WholeRoot root) seen w s n =
      let l : root < length roots = search tests in
      let k : root ≤ seen = search tests in
      record { grown = root-grown root seen l k w; back = ap WholeRoot (root-back root seen l k w); within = omega arith }
  joins (OneUnit root unit) seen w s n =
      let l : root < length roots = search tests in
      let k : root ≤ seen = search tests in
      record { grown = root-grown root seen l k w; back = ap (λ x. OneUnit x unit) (root-back root seen l k w); within = omega arith }

-- the profile of the rules so far, in which so many roots have appeared
abbrev so_far : ℕ → List ℕ → ℕ → List Rule → Profile
so_far firm roots seen before = record { firm = firm; roots = take seen roots; rules = before }

-- the parts of the test of the order
module _ (n : ℕ) (before : List Rule) (seen : ℕ) (rule : Rule) (rules : List Rule) (order : are_in_order n before seen (rule ∷ rules) ≡ true) where
  is-next : is_next rule.scope seen ≡ true
  unfolding are_in_order
  is-next = search tests

  not-crowded : crowded (before ++ (rule ∷ [])) rule.scope ≡ false
  unfolding are_in_order
  not-crowded = not-true (crowded (before ++ (rule ∷ [])) rule.scope) (search tests)

  order-on : are_in_order n (before ++ (rule ∷ [])) (seen_after rule.scope seen) rules ≡ true
  unfolding are_in_order
  order-on = search tests

-- one line more
module _ (firm : ℕ) (roots : List ℕ) (rule : Rule) (before : List Rule) (seen : ℕ) (j : Joins roots rule.scope seen) where
  joined_back : joined (so_far firm roots seen before) (with_name roots rule) ≡ so_far firm roots (seen_after rule.scope seen) (before ++ (rule ∷ []))
  unfolding joined
  joined_back = rw (j.grown, j.back)

  not-many : length roots ≤ 64 → length before < 256 → crowded (before ++ (rule ∷ [])) rule.scope ≡ false
      → too_many (so_far firm roots seen before) (with_name roots rule) ≡ false
  unfolding too_many
  not-many most room c =
      let rules-few = le-ltb 256 (length (before ++ (rule ∷ []))) (omega (arith, length-append before (rule ∷ []))) in
      let roots_few = le-ltb 64 (length (take (seen_after rule.scope seen) roots)) (omega (arith, length-take (seen_after rule.scope seen) roots)) in
      rw (joined_back, rules-few, roots_few, j.back, c)

-- all of them
module _ (firm : ℕ) (roots : List ℕ) (f : is_name_number 1 4 firm ≡ true) (h : are_roots roots ≡ true) (most : length roots ≤ 64) where
  pub read-on : (n : ℕ) (before : List Rule) (seen : ℕ) (rules : List Rule) → seen ≤ length roots → length before + length rules ≤ 256
      → every (is_rule (length roots)) rules ≡ true → are_in_order (length roots) before seen rules ≡ true
      → read_on (so_far firm roots seen before) n (map (line_text firm roots) rules) ≡ record { profile = record { firm = firm; roots = roots; rules = before ++ rules }; refusal = 0; line = 0 }
  unfolding read_on are_in_order after_line
  read-on n before seen [] w room ok order = rw (eqb-true seen (length roots) order, take-length roots, append-nil before)
  read-on n before seen (rule ∷ rules) w room ok order =
      let one = every_first (is_rule (length roots)) rule rules ok in
      let next = is-next (length roots) before seen rule rules order in
      let few = not-crowded (length roots) before seen rule rules order in
      let j = joins roots h rule.scope seen w (rule-scope (length roots) rule one) next in
      let after = order-on (length roots) before seen rule rules order in
      rw (line-back firm roots rule f h one, not-many firm roots rule before seen j most (omega arith) few, joined_back firm roots rule before seen j, ← append_snoc before rule rules)
      (read-on (n + 1) (before ++ (rule ∷ [])) (seen_after rule.scope seen) rules j.within (omega (arith, length-append before (rule ∷ [])))
      (every_rest (is_rule (length roots)) rule rules ok) after)
