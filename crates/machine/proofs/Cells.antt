-- The accounts that a profile's rules have: how many there are, which rule and unit each is of, and which of them an offer looks at. Assumes nothing.
use Prim.Native.Nat.{ℕ, zero, suc, ◌+◌, ◌*◌, ◌≤◌, ◌<◌}
use mathlib.Core.Path.{◌≡◌, refl, ap, ◌∙◌}
use mathlib.Core.Bool.{Bool, true, false, cond}
use mathlib.Core.List.Memᴰ
use mathlib.Core.List.{List, [], ◌∷◌, ◌++◌, map, Memᴰ}
use lib.ListN.{length, get_or, length-append, length-map, get_or-append}
use lib.Seq.{get_or-append-add}
use native.Mathlib.Nat.{zero-add, add_assoc}
use native.Mathlib.Omega.{arith}
use Rattle.laws.specs.Folds.{every, keep}
use Rattle.measures.specs.Ranges.{In, units}
use Rattle.rules.specs.Rules.{covers}
use Rattle.rules.specs.Units.{units_of, is_unit_of, place_in, scope_for, of_unit}
use Rattle.rules.specs.Valid.{is_rule}
use Rattle.rules.specs.Allowance.{All}
use Rattle.rules.specs.declared.Scope.{Scope}
use Rattle.rules.specs.declared.Scope.TheVariants.{EveryFill, WholeRoot, OneUnit}
use Rattle.rules.specs.declared.Rule.{Rule}
use Rattle.rules.proofs.Units.{units-few, units-some, unit-known, unit-place, unit-self, unit-valid, unit-alone}
use Rattle.machine.specs.State.{cells_by, cells_of}
use Rattle.machine.specs.Remaining.{rule_numbered, first_cell, cell_at}
use Rattle.machine.specs.Offers.{covers_offer}
use Rattle.machine.specs.declared.Offer.{Offer}
use Rattle.machine.proofs.Lists.{every-all, all-every, keep_append, map_at}

-- a rule has 1 to 4 accounts
pub cells-few : (rule : Rule) → length (cells_by rule) ≤ 4
unfolding cells_by
cells-few rule = rw length-map (units-few rule.scope)

pub cells-some : (rule : Rule) → 0 < length (cells_by rule)
unfolding cells_by
cells-some rule = rw length-map (units-some rule.scope)

-- one that counts for one unit only, or for all together, has itself for its account's rule
pub cells_self : (rule : Rule) → length (units_of rule.scope) ≡ 1 → cells_by rule ≡ rule ∷ []
unfolding cells_by units_of scope_for
cells_self rule one = go rule.scope refl one
  where
    go : (scope : Scope) → rule.scope ≡ scope → length (units_of scope) ≡ 1 → map (of_unit rule) (units_of scope) ≡ rule ∷ []
    go EveryFill e one = ap (λ (r : Rule). r ∷ []) (unit-self rule 0 (rw e))
    go (WholeRoot root) e one = absurd (omega arith)
    go (OneUnit root own) e one = ap (λ (r : Rule). r ∷ []) (unit-self rule own (rw e))

-- so there are at most four times as many accounts as rules
pub cells-most : (rules : List Rule) → length (cells_of rules) ≤ 4 * length rules
unfolding cells_of
cells-most [] = omega arith
cells-most (rule ∷ rest) = rw length-append (omega (arith, cells-few rule, cells-most rest))

-- and just four times as many where every rule counts for four units
pub cells_whole : (rules : List Rule) → All (λ rule. length (units_of rule.scope) ≡ 4) rules → length (cells_of rules) ≡ 4 * length rules
unfolding cells_of cells_by
cells_whole [] four = refl
cells_whole (rule ∷ rest) four = rw (length-append, length-map) (omega (arith, four.0, cells_whole rest four.1))

-- a profile of 256 rules, the most that there are, has at most 1,024
pub cells-bound : (rules : List Rule) → length rules ≤ 256 → length (cells_of rules) ≤ 1024
cells-bound rules few = omega (arith, cells-most rules)

-- and at least as many as rules
pub cells-least : (rules : List Rule) → length rules ≤ length (cells_of rules)
unfolding cells_of
cells-least [] = omega arith
cells-least (rule ∷ rest) = rw length-append (omega (arith, cells-some rule, cells-least rest))

-- the account of a rule for each unit that it counts for is among them
pub cell_in : (rule : Rule) (unit : ℕ) → is_unit_of rule.scope unit ≡ true → (rules : List Rule) → Memᴰ rule rules
    → Memᴰ (of_unit rule unit) (cells_of rules)
unfolding cells_of cells_by
cell_in rule unit known rules (Memᴰ.head {x = first} {xs = rest} e) =
    Memᴰ.append_left {s = cells_by first} (cells_of rest)
    (rw (← e) (Memᴰ.map (of_unit rule) ((unit-known rule.scope unit).0 known)))
cell_in rule unit known rules (Memᴰ.tail {x = first} {xs = rest} m) =
    Memᴰ.append_right (cells_by first) (cell_in rule unit known rest m)

-- the accounts of rule r stand one after the other, from where its first one is
pub cells_at : (rules : List Rule) (r j : ℕ) (none : Rule) → r < length rules → j < length (cells_by (rule_numbered rules r))
    → (first_cell rules r + j < length (cells_of rules)) × (get_or (cells_of rules) (first_cell rules r + j) none ≡ get_or (cells_by (rule_numbered rules r)) j none)
unfolding rule_numbered cells_of
cells_at [] r j none low few = absurd (omega arith)
cells_at (rule ∷ rest) zero j none low few =
    (rw length-append (omega arith), rw zero-add (get_or-append (cells_by rule) (cells_of rest) none j few))
cells_at (rule ∷ rest) (suc r) j none low few =
    let at = cells_at rest r j none (omega arith) few in
    (simp length-append (omega (arith, at.0)), rw (length-append, add_assoc, get_or-append-add) at.1)

-- and that for a unit at its place among them, whatever stands for none
pub cell-place : (rules : List Rule) (rule unit : ℕ) (none : Rule) → rule < length rules → is_unit_of (rule_numbered rules rule).scope unit ≡ true
    → (cell_at rules rule unit < length (cells_of rules)) × (get_or (cells_of rules) (cell_at rules rule unit) none ≡ of_unit (rule_numbered rules rule) unit)
unfolding cell_at cells_by
cell-place rules rule unit none low known =
    let own = rule_numbered rules rule in
    let at = unit-place own.scope unit known in
    let cell = cells_at rules rule (place_in own.scope unit) none low (rw length-map at.0) in
    (cell.0, cell.1 ∙ map_at (of_unit own) (units_of own.scope) _ none 0 at.0 ∙ ap (of_unit own) at.1)

module _ (P Q : Rule → Type 0) (each : (rule : Rule) (unit : ℕ) → is_unit_of rule.scope unit ≡ true → P rule → Q (of_unit rule unit)) where
  -- what holds of every rule, and so of it as it counts for each of its units, holds of every account
  pub cells-all : (rules : List Rule) → All P rules → All Q (cells_of rules)
  unfolding cells_of cells_by
  cells-all [] p = tt
  cells-all (rule ∷ rest) p = go (cells-all rest p.1) (units_of rule.scope) (λ u m. (unit-known rule.scope u).1 m)
    where
      go : All Q (cells_of rest) → (some : List ℕ) → ((u : ℕ) → Memᴰ u some → is_unit_of rule.scope u ≡ true)
          → All Q (map (of_unit rule) some ++ cells_of rest)
      go others [] known = others
      go others (u ∷ more) known = (each rule u (known u (Memᴰ.head refl)) p.0, go others more (λ v m. known v (Memᴰ.tail m)))

-- the accounts' rules are such as a profile may hold where the profile's are
pub cells-valid : (roots : ℕ) (rules : List Rule) → every (is_rule roots) rules ≡ true → every (is_rule roots) (cells_of rules) ≡ true
cells-valid roots rules h =
    all-every (is_rule roots) (cells_of rules)
    (cells-all _ _ (λ rule unit known valid. unit-valid roots rule unit known valid) rules (every-all (is_rule roots) rules h))

-- AN OFFER LOOKS AT ITS UNIT'S ACCOUNTS ALONE: those that cover it are, of each rule that covers it, the account for the offer's unit
pub cells-covering : (o : Offer) → In units o.unit → (rules : List Rule)
    → keep (covers_offer o) (cells_of rules) ≡ map (λ (rule : Rule). of_unit rule o.unit) (keep (covers_offer o) rules)
unfolding cells_of cells_by keep covers_offer
cells-covering o known [] = refl
cells-covering o known (rule ∷ rest) =
    rw (keep_append, unit-alone rule o.root o.unit known, cells-covering o known rest) (go (covers rule.scope o.root o.unit) (keep (covers_offer o) rest))
  where
    on_it : Rule → Rule
    on_it r = of_unit r o.unit

    go : (b : Bool) (kept : List Rule) → cond b (on_it rule ∷ []) [] ++ map on_it kept ≡ map on_it (cond b (rule ∷ kept) kept)
    go true kept = refl
    go false kept = refl
