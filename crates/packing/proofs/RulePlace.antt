-- A rule in two numbers: a rule that a profile may hold fits them, and they stand for that rule again. Assumes nothing.
use Rattle.std.proofs.Common.{◌≡◌, ℕ, ◌+◌, ◌/◌, ◌%◌, ◌<◌, ◌≤◌, true, ◌&&◌, ltb, List, [], ◌∷◌, length, get_or, drop, sym, refl, ◌∙◌, ap₂, zero-le, arith, ltb-true, lt-ltb}
use Rattle.laws.proofs.Tests.{and_l, and_r, and_i}
use Rattle.measures.specs.Ranges.{is_in, units, dollar_limits, number_limits}
use Rattle.measures.proofs.Determined.{test_in}
use Rattle.bits.specs.Fields.{total, unpacked, Fit}
use Rattle.bits.proofs.Packing.{unpacked-packed, done, most, fits}
use Rattle.rules.specs.Rules.{InRange, InDay}
use Rattle.rules.specs.declared.Scope.{Scope}
use Rattle.rules.specs.declared.Scope.TheVariants.{EveryFill, WholeRoot, OneUnit}
use Rattle.rules.specs.declared.Kind.{Kind}
use Rattle.rules.specs.declared.Kind.TheVariants.{Rate, Absolute}
use Rattle.rules.specs.declared.Limit.{Limit}
use Rattle.rules.specs.declared.Limit.TheVariants.{Notional, Volume, Count}
use Rattle.rules.specs.declared.Rule.{Rule}
use Rattle.tables.specs.declared.Place.{Place}
use Rattle.packing.specs.RulePlace.{limit_number, measure_number, window_number, kind_number, scope_number, root_number, unit_number, limit_widths, scope_widths, limit_values, scope_values, rule_numbers, limit_from, kind_from, scope_from, rule_from, rule_at, rule_place}
use Rattle.rules.specs.Valid.{windows, is_limit, is_kind, is_scope, is_rule}
use Rattle.tables.proofs.Tables.{Codec, placed}
use Rattle.packing.proofs.Parts.{told, by-shift}

in-range : (limit : Limit) → is_limit limit ≡ true → InRange limit
unfolding is_limit InRange
in-range (Notional l) h = test_in dollar_limits l.0 h
in-range (Volume l) h = test_in number_limits l.0 h
in-range (Count l) h = test_in number_limits l.0 h

in-day : (kind : Kind) → is_kind kind ≡ true → InDay kind
unfolding is_kind InDay
in-day (Rate w) h = (test_in windows w h).1
in-day Absolute h = tt

-- a rule that a profile may hold has a limit in its measure's range, and a window of at most a day
pub rule-in-range : (roots : ℕ) (rule : Rule) → is_rule roots rule ≡ true → InRange rule.limit × InDay rule.kind
unfolding is_rule
rule-in-range roots rule h =
    let l = is_limit rule.limit in
    let k = is_kind rule.kind in
    let p = and_l (l && k) (is_scope roots rule.scope) h in
    (in-range rule.limit (and_l l k p), in-day rule.kind (and_r l k p))

-- more roots hold it too
scope-wider : (roots more : ℕ) (scope : Scope) → roots ≤ more → is_scope roots scope ≡ true → is_scope more scope ≡ true
unfolding is_scope
scope-wider roots more EveryFill l h = refl
scope-wider roots more (WholeRoot r) l h = lt-ltb r more (omega (arith, ltb-true r roots h))
scope-wider roots more (OneUnit r u) l h =
    and_i (lt-ltb r more (omega (arith, ltb-true r roots (and_l (ltb r roots) (is_in units u) h)))) (and_r (ltb r roots) (is_in units u) h)

pub rule-wider : (roots more : ℕ) (rule : Rule) → roots ≤ more → is_rule roots rule ≡ true → is_rule more rule ≡ true
unfolding is_rule
rule-wider roots more rule l h =
    let p = is_limit rule.limit && is_kind rule.kind in
    and_i (and_l p (is_scope roots rule.scope) h) (scope-wider roots more rule.scope l (and_r p (is_scope roots rule.scope) h))

limit-most : (limit : Limit) → InRange limit → limit_number limit ≤ 100_000_000_000
unfolding InRange
limit-most (Notional l) h = h.1
limit-most (Volume l) h = omega arith
limit-most (Count l) h = omega arith

pub measure-most : (limit : Limit) → measure_number limit ≤ 2
measure-most (Notional l) = omega arith
measure-most (Volume l) = omega arith
measure-most (Count l) = omega arith

window-most : (kind : Kind) → InDay kind → window_number kind ≤ 86_400_000
unfolding InDay
window-most (Rate w) h = h
window-most Absolute h = zero-le

kind-most : (kind : Kind) → kind_number kind ≤ 1
kind-most (Rate w) = omega arith
kind-most Absolute = omega arith

scope-most : (scope : Scope) → scope_number scope ≤ 2
scope-most EveryFill = omega arith
scope-most (WholeRoot r) = omega arith
scope-most (OneUnit r u) = omega arith

root-most : (roots : ℕ) (scope : Scope) → roots ≤ 64 → is_scope roots scope ≡ true → root_number scope ≤ 63
unfolding is_scope
root-most roots EveryFill l h = zero-le
root-most roots (WholeRoot r) l h = omega (arith, ltb-true r roots h)
root-most roots (OneUnit r u) l h = omega (arith, ltb-true r roots (and_l (ltb r roots) (is_in units u) h))

unit-most : (roots : ℕ) (scope : Scope) → is_scope roots scope ≡ true → unit_number scope ≤ 3
unfolding is_scope
unit-most roots EveryFill h = zero-le
unit-most roots (WholeRoot r) h = zero-le
unit-most roots (OneUnit r u) h = (test_in units u (and_r (ltb r roots) (is_in units u) h)).1

-- what a rule owes to fit its second number
pub scope-fits : (rule : Rule) → root_number rule.scope ≤ 63 → unit_number rule.scope ≤ 3 → Fit scope_widths (scope_values rule)
unfolding scope_values
scope-fits rule root unit =
    fits
    (most 0 zero-le tt (most 2 (measure-most rule.limit) tt (most 1 (kind-most rule.kind) tt (most 2 (scope-most rule.scope) tt
    (most 63 root tt (most 3 unit tt done))))))

-- a rule that a profile may hold fits its numbers
module _ (roots : ℕ) (rule : Rule) (few : roots ≤ 64) (h : is_rule roots rule ≡ true) where
  pub limit-fit : Fit limit_widths (limit_values rule)
  unfolding limit_values
  limit-fit =
      let r = rule-in-range roots rule h in
      fits (most 100_000_000_000 (limit-most rule.limit r.0) tt (most 86_400_000 (window-most rule.kind r.1) tt done))

  pub scope-fit : Fit scope_widths (scope_values rule)
  unfolding is_rule
  scope-fit =
      let s = and_r (is_limit rule.limit && is_kind rule.kind) (is_scope roots rule.scope) h in
      scope-fits rule (root-most roots rule.scope few s) (unit-most roots rule.scope s)

  pub limit_small : (limit_number rule.limit < 137_438_953_472) × (window_number rule.kind < 134_217_728)
  unfolding limit_values Fit
  limit_small = (limit-fit.0, limit-fit.1.0)

  pub scope_small : (measure_number rule.limit < 4) × (kind_number rule.kind < 2) × (scope_number rule.scope < 4) × (root_number rule.scope < 64) × (unit_number rule.scope < 4)
  unfolding scope_values Fit
  scope_small = let f = scope-fit in (f.1.0, f.1.1.0, f.1.1.1.0, f.1.1.1.1.0, f.1.1.1.1.1.0)

-- the values of a rule stand for it
pub limit-back : (limit : Limit) → limit_from (measure_number limit) (limit_number limit) ≡ limit
unfolding limit_from
limit-back (Notional l) = refl
limit-back (Volume l) = refl
limit-back (Count l) = refl

pub kind-back : (kind : Kind) → kind_from (kind_number kind) (window_number kind) ≡ kind
unfolding kind_from
kind-back (Rate w) = refl
kind-back Absolute = refl

pub scope-back : (scope : Scope) → scope_from (scope_number scope) (root_number scope) (unit_number scope) ≡ scope
unfolding scope_from
scope-back EveryFill = refl
scope-back (WholeRoot r) = refl
scope-back (OneUnit r u) = refl

rule-back : (rule : Rule) → rule_from (limit_values rule) (scope_values rule) ≡ rule
unfolding rule_from limit_values scope_values
rule-back rule = λ k. record { scope = scope-back rule.scope k; kind = kind-back rule.kind k; limit = limit-back rule.limit k }

-- a rule in its table: two numbers, which stand for it
pub rule-codec : (roots : ℕ) → roots ≤ 64 → Codec 2 (is_rule roots) rule_at rule_numbers
unfolding rule_numbers rule_at
rule-codec roots few = record {
  long = λ rule. refl;
  back = λ rule rest h.
      ap₂ rule_from (unpacked-packed limit_widths (limit_values rule) (limit-fit roots rule few h))
      (unpacked-packed scope_widths (scope_values rule) (scope-fit roots rule few h))
      ∙ rule-back rule;
}

-- the fields of a rule's numbers, each by a shift and a mask
pub limit-fields : (f : ℕ) → unpacked limit_widths f ≡ f / 134_217_728 ∷ f % 134_217_728 ∷ []
unfolding total
limit-fields f = by-shift 37 (27 ∷ []) f

pub scope-fields : (s : ℕ) → unpacked scope_widths s ≡ s / 8192 ∷ s / 2048 % 4 ∷ s / 1024 % 2 ∷ s / 256 % 4 ∷ s / 4 % 64 ∷ s % 4 ∷ []
unfolding total
scope-fields s = by-shift 51 (2 ∷ 1 ∷ 2 ∷ 6 ∷ 2 ∷ []) s

pub rule-in : (f s : ℕ) (rest : List ℕ) → rule_at (f ∷ s ∷ rest) ≡ record {
  scope = scope_from (s / 256 % 4) (s / 4 % 64) (s % 4);
  kind = kind_from (s / 1024 % 2) (f % 134_217_728);
  limit = limit_from (s / 2048 % 4) (f / 134_217_728);
}
unfolding rule_at rule_from
rule-in f s rest = ap₂ rule_from (limit-fields f) (scope-fields s)

-- the rule at a place, by the place's two numbers as code reads them
module _ (xs : List ℕ) (at : ℕ) (h : at + 1 < length xs) where
  pub rule-here : rule_at (get_or xs at 0 ∷ get_or xs (at + 1) 0 ∷ []) ≡ rule_at (drop at xs)
  rule-here = told rule_at first xs at h
    where
      first : (a b : ℕ) (rest : List ℕ) → rule_at (a ∷ b ∷ rest) ≡ rule_at (a ∷ b ∷ [])
      first a b rest = rule-in a b rest ∙ sym (rule-in a b [])

-- the numbers of a rule that a profile may hold are those of its place
pub rule-placed : (rule : Rule) (p : Place) → is_rule 64 rule ≡ true → p ≡ rule_place rule → rule_numbers rule ≡ p.first ∷ p.second ∷ []
unfolding rule_numbers
rule-placed rule p h e = placed (is_rule 64) rule_numbers rule _ _ p refl h e
