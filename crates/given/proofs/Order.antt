-- The test of the rules' places: one rule more after those that are counted, and one place more. Assumes nothing.
use Prim.Native.Nat.{ℕ, zero, suc, ◌+◌, ◌*◌, ◌-◌, ◌≤◌, ◌<◌}
use mathlib.Core.Path.{◌≡◌, refl, sym, ap, ap₂, ◌∙◌}
use mathlib.Core.Bool.{Bool, true, false, ◌&&◌, and-false}
use mathlib.Core.List.{List, [], ◌∷◌, ◌++◌}
use lib.ListN.{length, take, drop, replicate, length-append}
use lib.Seq.{drop-drop}
use lib.Dec.{eqb, ltb}
use borrow.Author.Tests.{le-ltb, lt-ltb, ltb-true, eqb-true}
use native.Mathlib.Nat.{sub-zero}
use native.Mathlib.Numerals.{add-one}
use native.Mathlib.Omega.{arith}
use Rattle.laws.proofs.Tests.{and_l, and_r}
use Rattle.laws.specs.Lists.{same}
use Rattle.measures.specs.Ranges.{is_in, units}
use Rattle.rules.specs.declared.Scope.{Scope}
use Rattle.rules.specs.declared.Scope.TheVariants.{EveryFill, WholeRoot, OneUnit}
use Rattle.rules.specs.declared.Rule.{Rule}
use Rattle.rules.specs.Valid.{is_limit, is_kind, is_scope, is_rule}
use Rattle.tables.specs.Inner.Tables.{all_zero, places, is_place, places_pass}
use Rattle.packing.specs.RulePlace.{rule_at, rule_numbers, is_rule_place}
use Rattle.tables.proofs.Tables.{length-places}
use Rattle.tables.proofs.Passing.{pass_on}
use Rattle.packing.proofs.RulePlace.{rule-codec}
use Rattle.admission.specs.Admission.{seen_after, may_join, may_follow, are_in_order}
use Rattle.admission.specs.Inner.Counting.{SoFar, no_rules, Follows}
use Rattle.std.specs.declared.option.Option.TheVariants.{None, Some}
use Rattle.admission.specs.declared.Tally.{Tally}
use Rattle.admission.proofs.Joining.{none_so_far}
use Rattle.given.specs.Parts.{places_hold}
use Rattle.given.proofs.Places.{rules_from, rules-start, rules-on, rules-end}

-- the scope of a rule, and of one that stands at a place
pub rule-scope : (n : ℕ) (rule : Rule) → is_rule n rule ≡ true → is_scope n rule.scope ≡ true
unfolding is_rule
rule-scope n rule h = and_r (is_limit rule.limit && is_kind rule.kind) (is_scope n rule.scope) h

pub place-scope : (n : ℕ) (xs : List ℕ) → is_rule_place n xs ≡ true → is_scope n (rule_at xs).scope ≡ true
unfolding is_place
place-scope n xs e = rule-scope n (rule_at xs) (and_r (same (take 2 xs) (rule_numbers (rule_at xs))) (is_rule n (rule_at xs)) e)

-- few rules of few roots are too many at their own level alone
seen_few : (seen : ℕ) (s : Scope) → seen ≤ 64 → is_scope 64 s ≡ true → seen_after s seen ≤ 64
unfolding is_scope seen_after
seen_few seen EveryFill k e = k
seen_few seen (WholeRoot r) k e = omega (arith, ltb-true r 64 e)
seen_few seen (OneUnit r unit) k e = omega (arith, ltb-true r 64 (and_l (ltb r 64) (is_in units unit) e))

join-follows : (before : List Rule) (seen : ℕ) (rule : Rule) → length before < 256 → seen_after rule.scope seen ≤ 64 → may_join before seen rule ≡ may_follow before seen rule
unfolding may_join
join-follows before seen rule few less =
    rw (le-ltb 256 (length (before ++ (rule ∷ []))) (rw length-append (omega arith)), le-ltb 64 (seen_after rule.scope seen) less)

-- one place more
places-more : (k : ℕ) (xs : List ℕ) → places 2 rule_at (k + 1) xs ≡ places 2 rule_at k xs ++ (rule_at (drop (k * 2) xs) ∷ [])
unfolding places
places-more zero xs = refl
places-more (suc k) xs =
    let here : 2 + k * 2 ≡ suc k * 2 = omega arith in
    rw add-one (ap (λ (l : List Rule). rule_at xs ∷ l) (rw add-one at (places-more k (drop 2 xs))
    ∙ ap (λ (ys : List ℕ). places 2 rule_at k (drop 2 xs) ++ (rule_at ys ∷ [])) (drop-drop (k * 2) 2 xs ∙ ap (λ (m : ℕ). drop m xs) here)))

-- a root that has appeared is one of the n, where all n have appeared in the end: so it is enough to test that it is one of 64
scope-known : (n seen : ℕ) (s : Scope) → n ≤ 64 → seen_after s seen ≤ n → is_scope 64 s ≡ is_scope n s
unfolding is_scope seen_after
scope-known n seen EveryFill few h = refl
scope-known n seen (WholeRoot r) few h = lt-ltb r 64 (omega arith) ∙ sym (lt-ltb r n (omega arith))
scope-known n seen (OneUnit r unit) few h = ap (λ (b : Bool). b && is_in units unit) (lt-ltb r 64 (omega arith) ∙ sym (lt-ltb r n (omega arith)))

seen_more : (seen : ℕ) (s : Scope) → seen ≤ seen_after s seen
unfolding seen_after
seen_more seen EveryFill = omega arith
seen_more seen (WholeRoot r) = omega arith
seen_more seen (OneUnit r unit) = omega arith

roots-known : (n : ℕ) → n ≤ 64 → (k : ℕ) (before : List Rule) (seen : ℕ) (xs : List ℕ) → are_in_order n before seen (places 2 rule_at k xs) ≡ true
    → (seen ≤ n) × (places_pass 2 (is_rule_place 64) k xs ≡ places_pass 2 (is_rule_place n) k xs)
unfolding places places_pass are_in_order is_place is_rule
roots-known n few zero before seen xs h = let e = eqb-true seen n h in (omega arith, refl)
roots-known n few (suc k) before seen xs h =
    let rule = rule_at xs in
    let later = roots-known n few k (before ++ (rule ∷ [])) (seen_after rule.scope seen) (drop 2 xs) (and_r (may_follow before seen rule) _ h) in (
      omega (arith, seen_more seen rule.scope, later.0),
      ap₂ (λ (a b : Bool). (same (take 2 xs) (rule_numbers rule) && (is_limit rule.limit && is_kind rule.kind && a)) && b)
          (scope-known n seen rule.scope few later.0) later.1,
    )

-- the places from i on hold rules that may stand there
unfoldable pub left_holds : ℕ → ℕ → List ℕ → ℕ → ℕ → Bool
left_holds n k xs seen i =
    places_pass 2 (is_rule_place 64) (k - i) (drop (i * 2) xs) && are_in_order n (places 2 rule_at i xs) seen (rules_from k xs i)

module _ (n k : ℕ) (xs : List ℕ) (seen i : ℕ) (more : i < k) where
  abbrev here : List ℕ
  here = drop (i * 2) xs

  next : left_holds n k xs seen i
      ≡ (is_rule_place 64 here && places_pass 2 (is_rule_place 64) (k - (i + 1)) (drop ((i + 1) * 2) xs)
      && (may_follow (places 2 rule_at i xs) seen (rule_at here)
      && are_in_order n (places 2 rule_at (i + 1) xs) (seen_after (rule_at here).scope seen) (rules_from k xs (i + 1))))
  unfolding left_holds are_in_order
  next = rw (pass_on 2 k i xs more, rules-on k xs i more, places-more i xs)

  left-bad : is_rule_place 64 here ≡ false → left_holds n k xs seen i ≡ false
  left-bad e = next ∙ rw e

  left-stop : may_follow (places 2 rule_at i xs) seen (rule_at here) ≡ false → left_holds n k xs seen i ≡ false
  left-stop e = next ∙ rw (e, and-false)

  left-on : is_rule_place 64 here ≡ true → may_follow (places 2 rule_at i xs) seen (rule_at here) ≡ true
      → left_holds n k xs seen i ≡ left_holds n k xs (seen_after (rule_at here).scope seen) (i + 1)
  unfolding left_holds
  left-on e f = next ∙ rw (e, f)

left_end : (n k : ℕ) (xs : List ℕ) (seen i : ℕ) → k ≤ i → left_holds n k xs seen i ≡ eqb seen n
unfolding left_holds places_pass are_in_order
left_end n k xs seen i h = let z : k - i ≡ 0 = omega arith in rw (z, rules-end k xs i h)

holds-is : (n k : ℕ) (xs : List ℕ) → n ≤ 64 → places_hold n k xs ≡ (left_holds n k xs 0 0 && all_zero (drop (k * 2) xs))
unfolding places_hold left_holds places
holds-is n k xs few = ap (λ (b : Bool). b && all_zero (drop (k * 2) xs)) (go (are_in_order n [] 0 (places 2 rule_at k xs)) refl) ∙ rw (sub-zero, rules-start k xs)
  where
    go : (b : Bool) → are_in_order n [] 0 (places 2 rule_at k xs) ≡ b → (places_pass 2 (is_rule_place n) k xs && b) ≡ (places_pass 2 (is_rule_place 64) k xs && b)
    go true e = ap (λ (a : Bool). a && true) (sym (roots-known n few k [] 0 xs e).1)
    go false e = and-false (places_pass 2 (is_rule_place n) k xs) ∙ sym (and-false (places_pass 2 (is_rule_place 64) k xs))

-- the rules before place i are counted, and those from it on decide as all of them do
pub record Gone (n k : ℕ) (xs : List ℕ) (i : ℕ) (tally : Tally) (counts : List ℕ) : Type 0 where
  pub few : (n ≤ 64) × (k ≤ 256)
  pub reach : i ≤ k
  pub held : SoFar (places 2 rule_at i xs) tally counts
  pub rest : left_holds n k xs 0 0 ≡ left_holds n k xs tally.seen i

pub gone-start : (n k : ℕ) (xs : List ℕ) → n ≤ 64 → k ≤ 256 → Gone n k xs 0 no_rules (replicate 64 0)
unfolding places
gone-start n k xs h l = record { few = (h, l); reach = omega arith; held = none_so_far; rest = refl }

module _ {n k : ℕ} {xs : List ℕ} {i : ℕ} {tally : Tally} {counts : List ℕ} (gone : Gone n k xs i tally counts) where
  -- there is room for one more
  pub gone-room : i < k → tally.rules < 256
  gone-room more = omega (arith, gone.held.rules-are, length-places (rule-codec 64 (omega arith)) i xs, gone.few.1)

  -- what the code answers where what is left does not hold, and at the end
  stops : left_holds n k xs tally.seen i ≡ false → false ≡ places_hold n k xs
  stops e = sym (holds-is n k xs gone.few.0 ∙ ap (λ (b : Bool). b && all_zero (drop (k * 2) xs)) (gone.rest ∙ e))

  pub gone-end : k ≤ i → {zero : Bool} → zero ≡ all_zero (drop (k * 2) xs) → (eqb tally.seen n && zero) ≡ places_hold n k xs
  gone-end h e = sym (holds-is n k xs gone.few.0 ∙ ap₂ (λ (b z : Bool). b && z) (gone.rest ∙ left_end n k xs tally.seen i h) (sym e))

  module _ (more : i < k) where
    pub gone-bad : is_rule_place 64 (drop (i * 2) xs) ≡ false → false ≡ places_hold n k xs
    gone-bad e = stops (left-bad n k xs tally.seen i more e)

    module _ (ok : is_rule_place 64 (drop (i * 2) xs) ≡ true) {rule : Rule} (is : rule ≡ rule_at (drop (i * 2) xs)) where
      follows : may_follow (places 2 rule_at i xs) tally.seen rule ≡ may_join (places 2 rule_at i xs) tally.seen rule
      follows =
          sym (join-follows (places 2 rule_at i xs) tally.seen rule (omega (arith, length-places (rule-codec 64 (omega arith)) i xs, gone.few.1))
          (rw is (seen_few tally.seen _ gone.held.roots-most (place-scope 64 _ ok))))

      pub gone-stop : (after : List ℕ) → Follows (places 2 rule_at i xs) tally rule None counts after → false ≡ places_hold n k xs
      unfolding Follows
      gone-stop after f = stops (left-stop n k xs tally.seen i more (rw is at (follows ∙ f.0)))

      pub gone-next : {next : Tally} (after : List ℕ) → Follows (places 2 rule_at i xs) tally rule (Some next) counts after → Gone n k xs (i + 1) next after
      unfolding Follows
      gone-next after f = record {
        few = gone.few;
        reach = omega arith;
        held = rw (places-more i xs, ← is) f.2;
        rest = gone.rest ∙ left-on n k xs tally.seen i more ok (rw is at (follows ∙ f.0)) ∙ ap (λ (m : ℕ). left_holds n k xs m (i + 1)) (sym (rw is at f.1));
      }
