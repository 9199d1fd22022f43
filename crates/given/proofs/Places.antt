-- The tests of the roots' and the totals' places, and of the kinds of the rules, one rule more. Assumes nothing.
use Prim.Native.Nat.{ℕ, ◌+◌, ◌*◌, ◌-◌, ◌≤◌, ◌<◌, max}
use native.Mathlib.Nat.{sub-zero}
use native.Mathlib.Omega.{arith}
use mathlib.Core.Path.{◌≡◌, refl, sym, ap, ◌∙◌}
use mathlib.Core.Bool.{Bool, true, false, ◌&&◌, not, and_assoc, and-true}
use mathlib.Core.List.{List, [], ◌∷◌, ◌++◌}
use lib.ListN.{length, get_or, take, drop, length-drop, length-map}
use lib.Seq.{take_all, drop-drop}
use lib.Dec.{eqb}
use Rattle.laws.proofs.Lists.{from, ended}
use Rattle.rules.specs.Units.{units_of, of_unit}
use Rattle.rules.specs.declared.Scope.TheVariants.{WholeRoot}
use Rattle.rules.specs.declared.Rule.{Rule}
use Rattle.machine.specs.State.{cells_by, cells_of}
use Rattle.machine.specs.Offers.{window_of, longest}
use Rattle.machine.proofs.Cells.{cells_self}
use Rattle.tables.specs.Inner.Tables.{all_zero, places}
use Rattle.packing.specs.RulePlace.{rule_at}
use Rattle.tables.proofs.Passing.{places-on}
use Rattle.given.specs.Given.{is_fresh, are_roots}
use Rattle.given.specs.Parts.{names_hold, own_hold, totals_hold}
use Rattle.rules.specs.Valid.{is_total_number}

-- the part of a slice from a place to its end
pub to_end : (n : ℕ) (xs : List ℕ) → take (length xs - n) (drop n xs) ≡ drop n xs
to_end n xs = take_all (length xs - n) (drop n xs) (omega (arith, length-drop n xs))

-- a name among others, one of them more
module _ (name : ℕ) (names : List ℕ) (fresh : Bool) (i : ℕ) where
  pub fresh_on : i < length names → (fresh && is_fresh name (drop i names)) ≡ ((fresh && not (eqb (get_or names i 0) name)) && is_fresh name (drop (i + 1) names))
  unfolding is_fresh
  fresh_on h = rw (from names i h) (sym (and_assoc fresh (not (eqb (get_or names i 0) name)) (is_fresh name (drop (i + 1) names))))

  pub fresh-end : length names ≤ i → (fresh && is_fresh name (drop i names)) ≡ fresh
  unfolding is_fresh
  fresh-end h = rw (ended names i h) (and-true fresh)

-- the names from place i on, of the first n
abbrev pub names_from : ℕ → List ℕ → ℕ → List ℕ
names_from n xs i = take (n - i) (drop i xs)

pub roots-start : (n : ℕ) (xs : List ℕ) → names_hold n xs ≡ (are_roots (names_from n xs 0) && all_zero (drop n xs))
unfolding names_hold
roots-start n xs = rw sub-zero

pub roots-end : (n : ℕ) (xs : List ℕ) (i : ℕ) → n ≤ i → are_roots (names_from n xs i) ≡ true
unfolding are_roots
roots-end n xs i h = let z : n - i ≡ 0 = omega arith in rw z

-- the rules from place i on, of the first k
unfoldable pub rules_from : ℕ → List ℕ → ℕ → List Rule
rules_from k xs i = places 2 rule_at (k - i) (drop (i * 2) xs)

module _ (k : ℕ) (xs : List ℕ) where
  pub rules-start : places 2 rule_at k xs ≡ rules_from k xs 0
  unfolding rules_from
  rules-start = rw sub-zero

  pub rules-on : (i : ℕ) → i < k → rules_from k xs i ≡ rule_at (drop (i * 2) xs) ∷ rules_from k xs (i + 1)
  unfolding rules_from
  rules-on i more = places-on 2 k i xs more rule_at

  pub rules-end : (i : ℕ) → k ≤ i → rules_from k xs i ≡ []
  unfolding rules_from places
  rules-end i h = let z : k - i ≡ 0 = omega arith in rw z

-- the totals of a rule's accounts: whether a number may be a total of it goes by the rule's kind alone, whichever unit it is for
module _ (rule : Rule) (totals : List ℕ) (place : ℕ) where
  abbrev may : ℕ → Bool
  may j = is_total_number rule (get_or totals (place + j) 0)

  pub own-one : length (units_of rule.scope) ≡ 1 → place < length totals → is_total_number rule (get_or totals place 0) ≡ own_hold (cells_by rule) (drop place totals)
  unfolding own_hold
  own-one one within = rw (cells_self rule one, from totals place within) (sym (and-true (is_total_number rule (get_or totals place 0))))

  pub own-four : (root : ℕ) → rule.scope ≡ WholeRoot root → place + 4 ≤ length totals
      → (((is_total_number rule (get_or totals place 0) && may 1) && may 2) && may 3) ≡ own_hold (cells_by rule) (drop place totals)
  unfolding own_hold cells_by units_of is_total_number of_unit
  own-four root whole within =
      let two : place + 2 ≡ place + 1 + 1 = omega arith in
      let three : place + 3 ≡ place + 1 + 1 + 1 = omega arith in
      regroup (is_total_number rule (get_or totals place 0)) (may 1) (may 2) (may 3)
      ∙ rw (two, three, whole, from totals place (omega arith), from totals (place + 1) (omega arith), from totals (place + 1 + 1) (omega arith), from totals (place + 1 + 1 + 1) (omega arith)) refl
    where
      regroup : (a b c d : Bool) → (((a && b) && c) && d) ≡ (a && (b && (c && (d && true))))
      regroup true true true true = refl
      regroup true true true false = refl
      regroup true true false d = refl
      regroup true false c d = refl
      regroup false b c d = refl

-- the totals of some accounts, and then those of the others
own_split : (cells rest : List Rule) (totals : List ℕ)
    → totals_hold (cells ++ rest) totals ≡ (own_hold cells totals && totals_hold rest (drop (length cells) totals))
unfolding totals_hold own_hold
own_split [] rest totals = refl
own_split (cell ∷ cells) rest [] = refl
own_split (cell ∷ cells) rest (x ∷ totals) =
    ap (λ (b : Bool). is_total_number cell x && b) (own_split cells rest totals)
    ∙ sym (and_assoc (is_total_number cell x) (own_hold cells totals) (totals_hold rest (drop (length cells) totals)))

module _ (k : ℕ) (xs : List ℕ) (i : ℕ) (more : i < k) (rule : Rule) (is : rule ≡ rule_at (drop (i * 2) xs)) where
  -- the totals of the accounts from rule i on, which begin at a place
  module _ (totals : List ℕ) (place n : ℕ) (many : n ≡ length (units_of rule.scope)) where
    pub totals-next : totals_hold (cells_of (rules_from k xs i)) (drop place totals)
        ≡ (own_hold (cells_by rule) (drop place totals) && totals_hold (cells_of (rules_from k xs (i + 1))) (drop (place + n) totals))
    unfolding cells_of cells_by
    totals-next =
        let on : place + length (cells_by rule) ≡ place + n = omega (arith, many, length-map (units_of rule.scope) (of_unit rule)) in
        rw (rules-on k xs i more, ← is) (own_split (cells_by rule) (cells_of (rules_from k xs (i + 1))) (drop place totals)
        ∙ ap (λ (ts : List ℕ). own_hold (cells_by rule) (drop place totals) && totals_hold (cells_of (rules_from k xs (i + 1))) ts)
        (drop-drop (length (cells_by rule)) place totals ∙ ap (λ (j : ℕ). drop j totals) on))

-- the longest window of all rules, from what was found and the rules from place i on
pub span-start : (k : ℕ) (xs : List ℕ) → longest (places 2 rule_at k xs) ≡ max 0 (longest (rules_from k xs 0))
span-start k xs = rw (← (rules-start k xs)) (omega arith)

pub span-on : (k : ℕ) (xs : List ℕ) (i : ℕ) → i < k → (rule : Rule) → rule ≡ rule_at (drop (i * 2) xs) → (w n : ℕ) → w ≡ window_of rule.kind → (m : ℕ) → m ≡ max w n
    → max n (longest (rules_from k xs i)) ≡ max m (longest (rules_from k xs (i + 1)))
unfolding longest
span-on k xs i more rule is w n e m f = rw (rules-on k xs i more, ← is, ← e, f) (omega arith)

pub span-end : (k : ℕ) (xs : List ℕ) (i n : ℕ) → k ≤ i → max n (longest (rules_from k xs i)) ≡ n
unfolding longest
span-end k xs i n h = rw (rules-end k xs i h) (omega arith)

pub totals-end : (k : ℕ) (xs : List ℕ) (i : ℕ) (totals : List ℕ) → k ≤ i → totals_hold (cells_of (rules_from k xs i)) totals ≡ all_zero totals
unfolding totals_hold cells_of
totals-end k xs i totals h = rw (rules-end k xs i h)
