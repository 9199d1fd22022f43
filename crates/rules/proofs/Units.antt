-- The units that a rule counts for, and a rule as it counts for one of them. Assumes nothing.
use Prim.Native.Nat.{ℕ, zero, suc, ◌≤◌, ◌<◌}
use mathlib.Core.Path.{◌≡◌, refl, sym}
use mathlib.Core.Logic.{◌↔◌}
use mathlib.Core.Bool.{Bool, true, false, cond, ◌&&◌}
use mathlib.Core.List.Memᴰ
use mathlib.Core.List.{List, [], ◌∷◌, map, Memᴰ}
use lib.ListN.{length, get_or}
use lib.Dec.{eqb, leb}
use borrow.Author.Tests.{leb-true, eqb-true, eq-eqb}
use native.Mathlib.Omega.{arith}
use Rattle.laws.proofs.Tests.{and_l, and_r}
use Rattle.laws.specs.Folds.{keep}
use Rattle.measures.specs.Ranges.{In, units}
use Rattle.measures.proofs.Determined.{in-test}
use Rattle.rules.specs.Rules.{level_of, covers}
use Rattle.rules.specs.Units.{units_of, is_unit_of, place_in, scope_for, of_unit}
use Rattle.rules.specs.Valid.{is_limit, is_kind, is_scope, is_rule}
use Rattle.rules.specs.declared.Scope.{Scope}
use Rattle.rules.specs.declared.Scope.TheVariants.{EveryFill, WholeRoot, OneUnit}
use Rattle.rules.specs.declared.Rule.{Rule}

-- a rule counts for 1 to 4 units
pub units-few : (scope : Scope) → length (units_of scope) ≤ 4
unfolding units_of
units-few EveryFill = omega arith
units-few (WholeRoot root) = omega arith
units-few (OneUnit root unit) = omega arith

pub units-some : (scope : Scope) → 0 < length (units_of scope)
unfolding units_of
units-some EveryFill = omega arith
units-some (WholeRoot root) = omega arith
units-some (OneUnit root unit) = omega arith

-- a unit of the four is one of four numbers
pub four : (P : ℕ → Type 0) → P 0 → P 1 → P 2 → P 3 → (unit : ℕ) → unit ≤ 3 → P unit
four P a b c d zero h = a
four P a b c d (suc zero) h = b
four P a b c d (suc (suc zero)) h = c
four P a b c d (suc (suc (suc zero))) h = d
four P a b c d (suc (suc (suc (suc n)))) h = absurd (omega arith)

-- the test tells the units of the list, and no others
pub unit-known : (scope : Scope) (unit : ℕ) → (is_unit_of scope unit ≡ true) ↔ Memᴰ unit (units_of scope)
unfolding is_unit_of units_of
unit-known EveryFill unit = (λ e. Memᴰ.head (eqb-true unit 0 e), λ m. eq-eqb unit 0 (Memᴰ.eq_of_singleton m))
unit-known (WholeRoot root) unit = (λ e. listed unit (leb-true unit 3 (and_r (leb 0 unit) (leb unit 3) e)), λ m. in-test units unit (omega arith, most unit m))
  where
    all : List ℕ
    all = 0 ∷ 1 ∷ 2 ∷ 3 ∷ []

    listed : (unit : ℕ) → unit ≤ 3 → Memᴰ unit all
    listed =
        four (λ n. Memᴰ n all) (Memᴰ.head refl) (Memᴰ.tail (Memᴰ.head refl)) (Memᴰ.tail (Memᴰ.tail (Memᴰ.head refl)))
        (Memᴰ.tail (Memᴰ.tail (Memᴰ.tail (Memᴰ.head refl))))

    most : (unit : ℕ) → Memᴰ unit all → unit ≤ 3
    most unit (Memᴰ.head e) = omega (arith, e)
    most unit (Memᴰ.tail (Memᴰ.head e)) = omega (arith, e)
    most unit (Memᴰ.tail (Memᴰ.tail (Memᴰ.head e))) = omega (arith, e)
    most unit (Memᴰ.tail (Memᴰ.tail (Memᴰ.tail m))) = omega (arith, Memᴰ.eq_of_singleton m)
unit-known (OneUnit root own) unit = (λ e. Memᴰ.head (eqb-true unit own e), λ m. eq-eqb unit own (Memᴰ.eq_of_singleton m))

-- and each stands at its place
pub unit-place : (scope : Scope) (unit : ℕ) → is_unit_of scope unit ≡ true
    → (place_in scope unit < length (units_of scope)) × (get_or (units_of scope) (place_in scope unit) 0 ≡ unit)
unfolding is_unit_of units_of place_in
unit-place EveryFill unit e = (omega arith, sym (eqb-true unit 0 e))
unit-place (WholeRoot root) unit e =
    let few = leb-true unit 3 (and_r (leb 0 unit) (leb unit 3) e) in (omega arith, four (λ n. get_or (0 ∷ 1 ∷ 2 ∷ 3 ∷ []) n 0 ≡ n) refl refl refl refl unit few)
unit-place (OneUnit root own) unit e = (omega arith, sym (eqb-true unit own e))

-- whichever unit it counts for, a rule locks its own level
pub unit-level : (scope : Scope) (unit : ℕ) → level_of (scope_for scope unit) ≡ level_of scope
unfolding scope_for level_of
unit-level EveryFill unit = refl
unit-level (WholeRoot root) unit = refl
unit-level (OneUnit root own) unit = refl

-- a rule that counts for one unit only, or for all together, is itself as it counts for it
pub unit-self : (rule : Rule) (unit : ℕ) → scope_for rule.scope unit ≡ rule.scope → of_unit rule unit ≡ rule
unfolding of_unit
unit-self rule unit e = λ i. record { scope = e i; kind = rule.kind; limit = rule.limit }

-- A FILL IS COUNTED FOR ITS OWN UNIT ALONE: of the counts of a rule that covers it, the one for the fill's unit covers it, and no other
pub unit-alone : (rule : Rule) (root unit : ℕ) → In units unit
    → keep (λ (cell : Rule). covers cell.scope root unit) (map (of_unit rule) (units_of rule.scope))
    ≡ cond (covers rule.scope root unit) (of_unit rule unit ∷ []) []
unfolding keep covers units_of scope_for of_unit
unit-alone rule root unit known = go rule.scope
  where
    within : Scope → Rule
    within scope = record { scope = scope; kind = rule.kind; limit = rule.limit }

    covered : ℕ → List Rule → List Rule
    covered unit cells = keep (λ (cell : Rule). covers cell.scope root unit) cells

    whole : (r : ℕ) (b : Bool) → eqb r root ≡ b → (unit : ℕ) → unit ≤ 3
        → covered unit (within (OneUnit r 0) ∷ within (OneUnit r 1) ∷ within (OneUnit r 2) ∷ within (OneUnit r 3) ∷ []) ≡ cond b (within (OneUnit r unit) ∷ []) []
    whole r true e = four _ (rw e) (rw e) (rw e) (rw e)
    whole r false e = four _ (rw e) (rw e) (rw e) (rw e)

    go : (scope : Scope) → covered unit (map (λ (u : ℕ). within (scope_for scope u)) (units_of scope)) ≡ cond (covers scope root unit) (within (scope_for scope unit) ∷ []) []
    go EveryFill = refl
    go (WholeRoot r) = whole r (eqb r root) refl unit known.1
    go (OneUnit r u) = refl

-- a rule that a profile may hold is such a rule for each of its units
pub unit-valid : (roots : ℕ) (rule : Rule) (unit : ℕ) → is_unit_of rule.scope unit ≡ true → is_rule roots rule ≡ true → is_rule roots (of_unit rule unit) ≡ true
unfolding is_rule of_unit is_scope scope_for is_unit_of
unit-valid roots rule unit known valid =
    let limit = is_limit rule.limit in
    let kind = is_kind rule.kind in
    let fits = and_l (limit && kind) (is_scope roots rule.scope) valid in
    rw (and_l limit kind fits, and_r limit kind fits) (go rule.scope known (and_r (limit && kind) (is_scope roots rule.scope) valid))
  where
    go : (scope : Scope) → is_unit_of scope unit ≡ true → is_scope roots scope ≡ true → is_scope roots (scope_for scope unit) ≡ true
    go EveryFill k v = refl
    go (WholeRoot root) k v = rw v k
    go (OneUnit root own) k v = v

-- among the units that a rule counts for, the one that an offer looks at stands at its place, and covers what the rule covers of the offer's unit
pub facing-low : (scope : Scope) (unit : ℕ) → In units unit → place_in scope unit < length (units_of scope)
unfolding units_of place_in
facing-low EveryFill unit known = omega arith
facing-low (WholeRoot root) unit known = omega (arith, known.1)
facing-low (OneUnit root own) unit known = omega arith

pub facing-scope : (scope : Scope) (unit : ℕ) → In units unit → scope_for scope (get_or (units_of scope) (place_in scope unit) 0) ≡ scope_for scope unit
unfolding units_of place_in scope_for
facing-scope EveryFill unit known = refl
facing-scope (WholeRoot root) unit known =
    four (λ n. OneUnit root (get_or (0 ∷ 1 ∷ 2 ∷ 3 ∷ []) n 0) ≡ OneUnit root n) refl refl refl refl unit known.1
facing-scope (OneUnit root own) unit known = refl
