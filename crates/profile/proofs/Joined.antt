-- A lawful profile stays so with one rule more, as long as that is not one too many. Assumes nothing.
use Prim.Native.Nat.{ℕ, ◌+◌, ◌≤◌, ◌<◌}
use mathlib.Core.Path.{◌≡◌, refl, sym, ap₂, ◌∙◌}
use mathlib.Core.Bool.{true, false, not, ◌&&◌, ◌||◌}
use mathlib.Core.List.{List, [], ◌∷◌, ◌++◌}
use lib.ListN.{length, get_or, length-append}
use lib.Dec.{ltb}
use borrow.Author.Tests.{ltb-false, lt-ltb, le-leb}
use native.Mathlib.Numerals.{add-one}
use native.Mathlib.Omega.{arith}
use Rattle.rules.specs.declared.Scope.{Scope}
use Rattle.rules.specs.declared.Scope.TheVariants.{EveryFill, WholeRoot, OneUnit}
use Rattle.rules.specs.declared.Rule.{Rule}
use Rattle.text.specs.Text.{index_of}
use Rattle.text.proofs.Lists.{index-le}
use Rattle.laws.specs.Folds.{every}
use Rattle.laws.proofs.Every.{every-imp, every-join}
use Rattle.rules.specs.Valid.{is_scope, is_rule}
use Rattle.machine.specs.State.{Profile}
use Rattle.packing.proofs.RulePlace.{rule-wider}
use Rattle.admission.specs.Admission.{crowded, overfull, seen_after, is_next, may_join, are_in_order}
use Rattle.admission.proofs.Levels.{or_l, or_r, order-more}
use Rattle.profile.specs.Profile.{roots_with, numbered, joined, too_many, start_of}
use Rattle.profile.specs.Inner.Lawful.{IsNameNumber, SaidScope, Said, Lawful}
use Rattle.profile.proofs.Roots.{with-index, with-length, with-named, with-placed}

-- before the first line nothing is too many
pub start-lawful : (firm : ℕ) → Lawful (start_of firm)
unfolding every are_in_order
start-lawful firm = record {
  rules-most = omega arith;
  roots-most = omega arith;
  each-rule = refl;
  each-name = λ root h. absurd (omega arith);
  each-place = λ root h. absurd (omega arith);
  in_order = refl;
}

-- the roots that a scope adds to, and the scope with its root's number
module _ (roots : List ℕ) where
  pub number_of : (s : Scope) → numbered (roots_with s roots) s ≡ numbered roots s
  unfolding numbered roots_with
  number_of EveryFill = refl
  number_of (WholeRoot name) = rw (with-index name roots)
  number_of (OneUnit name unit) = rw (with-index name roots)

  next_of : (s : Scope) → is_next (numbered roots s) (length roots) ≡ true
  unfolding is_next numbered
  next_of EveryFill = refl
  next_of (WholeRoot name) = le-leb (index_of name roots) (length roots) (index-le name roots)
  next_of (OneUnit name unit) = le-leb (index_of name roots) (length roots) (index-le name roots)

  pub known_of : (s : Scope) → seen_after (numbered roots s) (length roots) ≡ length (roots_with s roots)
  unfolding seen_after numbered roots_with
  known_of EveryFill = refl
  known_of (WholeRoot name) = sym (rw add-one at (with-length name roots))
  known_of (OneUnit name unit) = sym (rw add-one at (with-length name roots))

  among : (name : ℕ) → ltb (index_of name roots) (length (roots_with (WholeRoot name) roots)) ≡ true
  unfolding roots_with
  among name = lt-ltb (index_of name roots) _ (omega (arith, with-length name roots))

  pub scope_of : (s : Scope) → SaidScope s → is_scope (length (roots_with s roots)) (numbered roots s) ≡ true
  unfolding is_scope numbered roots_with SaidScope
  scope_of EveryFill h = refl
  scope_of (WholeRoot name) h = among name
  scope_of (OneUnit name unit) h = ap₂ (λ a b. a && b) (among name) h.1

  pub grow : (s : Scope) → length roots ≤ length (roots_with s roots)
  unfolding roots_with
  grow EveryFill = omega arith
  grow (WholeRoot name) = omega (arith, with-length name roots)
  grow (OneUnit name unit) = omega (arith, with-length name roots)

  named-of : (s : Scope) → SaidScope s → ((root : ℕ) → root < length roots → IsNameNumber 1 6 (get_or roots root 0))
      → (root : ℕ) → root < length (roots_with s roots) → IsNameNumber 1 6 (get_or (roots_with s roots) root 0)
  unfolding roots_with SaidScope
  named-of EveryFill h old = old
  named-of (WholeRoot name) h old = with-named name roots old h
  named-of (OneUnit name unit) h old = with-named name roots old h.0

  placed_of : (s : Scope) → ((root : ℕ) → root < length roots → index_of (get_or roots root 0) roots ≡ root)
      → (root : ℕ) → root < length (roots_with s roots) → index_of (get_or (roots_with s roots) root 0) (roots_with s roots) ≡ root
  unfolding roots_with
  placed_of EveryFill old = old
  placed_of (WholeRoot name) old = with-placed name roots old
  placed_of (OneUnit name unit) old = with-placed name roots old

-- a rule after a profile, with its root's number for the name
abbrev pub own_of : Profile → Rule → Rule
own_of p rule = record { scope = numbered p.roots rule.scope; kind = rule.kind; limit = rule.limit }

module _ (p : Profile) (rule : Rule) where
  abbrev roots : List ℕ
  roots = roots_with rule.scope p.roots

  abbrev more : List Rule
  more = p.rules ++ (own_of p rule ∷ [])

  pub joined_is : joined p rule ≡ record { firm = p.firm; roots = roots; rules = more }
  unfolding joined
  joined_is = rw (number_of p.roots rule.scope)

  pub joined_length : length (joined p rule).rules ≡ length p.rules + 1
  joined_length = rw (joined_is, length-append)

  too-many-is : too_many p rule ≡ overfull more (length roots) (own_of p rule).scope
  unfolding too_many joined
  too-many-is = rw (number_of p.roots rule.scope)

  -- it may join the rules exactly if nothing is too many with it
  pub join_is : may_join p.rules (length p.roots) (own_of p rule) ≡ not (too_many p rule)
  unfolding may_join
  join_is = rw (next_of p.roots rule.scope, known_of p.roots rule.scope, too-many-is)

  module _ (said : Said rule) where
    pub own-rule : is_rule (length roots) (own_of p rule) ≡ true
    unfolding is_rule
    own-rule = ap₂ (λ a b. a && b) (ap₂ (λ a b. a && b) said.limit said.kind) (scope_of p.roots rule.scope said.scope)

    pub lawful-joined : Lawful p → too_many p rule ≡ false → Lawful (joined p rule)
    lawful-joined law room =
        let own = own_of p rule in
        let all = sym too-many-is ∙ room in
        let two = or_l (ltb 256 (length more) || ltb 64 (length roots)) (crowded more own.scope) all in
        let free = or_r (ltb 256 (length more) || ltb 64 (length roots)) (crowded more own.scope) all in
        let wider : every (is_rule (length roots)) p.rules ≡ true =
        every-imp (is_rule (length p.roots)) (is_rule (length roots)) (λ r. rule-wider (length p.roots) (length roots) r (grow p.roots rule.scope)) p.rules
        law.each-rule in
        rw joined_is (record {
          rules-most = ltb-false 256 (length more) (or_l (ltb 256 (length more)) (ltb 64 (length roots)) two);
          roots-most = ltb-false 64 (length roots) (or_r (ltb 256 (length more)) (ltb 64 (length roots)) two);
          each-rule = every-join (is_rule (length roots)) p.rules own wider own-rule;
          each-name = named-of p.roots rule.scope said.scope law.each-name;
          each-place = placed_of p.roots rule.scope law.each-place;
          in_order =
              rw known_of at (order-more (length p.roots) [] 0 p.rules own law.in_order (ap₂ (λ a b. a && not b) (next_of p.roots rule.scope) free));
        })
