-- There is a rate rule just where the longest window is not 0, since no window is. Assumes nothing.
use Prim.Native.Nat.{ℕ, zero, suc, max}
use mathlib.Core.Path.{◌≡◌, refl}
use mathlib.Core.Bool.{Bool, true, ◌&&◌, ◌||◌}
use mathlib.Core.List.{List, []}
use native.Mathlib.Omega.{arith}
use lib.ListN.{get_or, take, drop}
use lib.Dec.{leb, ltb}
use borrow.Author.Tests.{lt-ltb, leb-true}
use Rattle.laws.proofs.Tests.{and_l, and_r}
use Rattle.laws.specs.Lists.{same}
use Rattle.measures.specs.Ranges.{◌to◌, is_in}
use Rattle.rules.specs.Rules.{is_rate}
use Rattle.rules.specs.Valid.{is_limit, is_kind, is_scope, is_rule, has_rate}
use Rattle.rules.specs.declared.Kind.{Kind}
use Rattle.rules.specs.declared.Kind.TheVariants.{Rate, Absolute}
use Rattle.machine.specs.Offers.{window_of, longest}
use Rattle.tables.specs.Inner.Tables.{places, is_place, places_pass}
use Rattle.packing.specs.RulePlace.{rule_at, rule_numbers, is_rule_place}
use Rattle.admission.specs.Admission.{are_in_order}
use Rattle.given.specs.Parts.{places_hold, places_of, rules_of, rules_hold}

-- one rule and those after it
rate-more : (kind : Kind) → is_kind kind ≡ true → (rest : ℕ) (rates : Bool) → ltb 0 rest ≡ rates → ltb 0 (max (window_of kind) rest) ≡ (is_rate kind || rates)
unfolding is_kind window_of is_rate
rate-more (Rate w) ok rest rates e = lt-ltb 0 (max w rest) (omega (arith, leb-true 100 w (and_l (leb 100 w) _ ok)))
rate-more Absolute ok rest rates e = let same : max 0 rest ≡ rest = omega arith in rw same e

rate-places : (n k : ℕ) (xs : List ℕ) → places_pass 2 (is_rule_place n) k xs ≡ true → ltb 0 (longest (places 2 rule_at k xs)) ≡ has_rate (places 2 rule_at k xs)
unfolding places_pass places longest has_rate is_place is_rule
rate-places n zero xs h = refl
rate-places n (suc k) xs h =
    let rule = rule_at xs in
    let terms = is_limit rule.limit && is_kind rule.kind in
    let here = and_l (is_rule_place n xs) (places_pass 2 (is_rule_place n) k (drop 2 xs)) h in
    let kind = and_r (is_limit rule.limit) (is_kind rule.kind) (and_l terms (is_scope n rule.scope) (and_r (same (take 2 xs) (rule_numbers rule)) _ here)) in
    rate-more rule.kind kind (longest (places 2 rule_at k (drop 2 xs))) _ (rate-places n k (drop 2 xs) (and_r (is_rule_place n xs) _ h))

pub rate-told : (n : ℕ) (xs : List ℕ) → rules_hold n xs ≡ true → ltb 0 (longest (rules_of xs)) ≡ has_rate (rules_of xs)
unfolding rules_hold places_hold
rate-told n xs h =
    let k = get_or xs 0 0 in
    let pass = places_pass 2 (is_rule_place n) k (places_of xs) in
    let order = are_in_order n [] 0 (places 2 rule_at k (places_of xs)) in
    let held = and_r (is_in (1 to 256) k) _ h in
    rate-places n k (places_of xs) (and_l pass order (and_l (pass && order) _ held))
