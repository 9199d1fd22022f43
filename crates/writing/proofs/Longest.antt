-- How long the line of a rule can be: 48 bytes, and so many has a notional rate rule of one unit with names, limit and window at their longest.
-- Assumes nothing.
use Prim.Native.Nat.{ℕ, ◌+◌, ◌≤◌}
use mathlib.Core.Path.{◌≡◌}
use mathlib.Core.Bool.{true}
use mathlib.Core.List.{List}
use lib.ListN.{length, get_or}
use native.Mathlib.Omega.{arith}
use Rattle.laws.proofs.Tests.{tests}
use Rattle.rules.specs.declared.Scope.{Scope}
use Rattle.rules.specs.declared.Scope.TheVariants.{EveryFill, WholeRoot, OneUnit}
use Rattle.rules.specs.declared.Kind.{Kind}
use Rattle.rules.specs.declared.Kind.TheVariants.{Rate, Absolute}
use Rattle.rules.specs.declared.Limit.{Limit}
use Rattle.rules.specs.declared.Limit.TheVariants.{Notional, Volume, Count}
use Rattle.rules.specs.declared.Rule.{Rule}
use Rattle.rules.specs.Valid.{is_limit, is_kind, is_scope, is_rule}
use Rattle.text.specs.Text.{is_name_byte}
use Rattle.text.specs.Digits.{name_bytes, decimal}
use Rattle.text.proofs.Bytes.{made-most}
use Rattle.text.proofs.Decimal.{decimal-upto}
use Rattle.packing.specs.RulePlace.{limit_number}
use Rattle.given.specs.Names.{is_name_number}
use Rattle.given.specs.Given.{are_roots}
use Rattle.given.proofs.Order.{rule-scope}
use Rattle.writing.specs.Writing.{type_name, root_text, line_text}
use Rattle.writing.specs.Inner.Parts.{end_text}
use Rattle.writing.proofs.Roots.{root-name}
use Rattle.writing.proofs.Fields.{rule-limit, rule-kind}
use Rattle.writing.proofs.Cut.{letters-few, rate-long, absolute-few, line-long}

name-most : (least most n : ℕ) → is_name_number least most n ≡ true → length (name_bytes n) ≤ most
unfolding is_name_number
name-most least most n h = made-most is_name_byte least most (name_bytes n) h

-- the type's name and the limit value: the longer name of a count has a shorter limit
type-most : (kind : Kind) (limit : Limit) → is_limit limit ≡ true → length (type_name kind limit) + length (decimal (limit_number limit)) ≤ 21
unfolding type_name is_limit
type-most (Rate w) (Notional l) h = let most : l.0 ≤ 100_000_000_000 = search tests in omega (arith, decimal-upto 11 l.0 (omega arith))
type-most (Rate w) (Volume l) h = let most : l.0 ≤ 1_000_000_000 = search tests in omega (arith, decimal-upto 9 l.0 (omega arith))
type-most (Rate w) (Count l) h = let most : l.0 ≤ 1_000_000_000 = search tests in omega (arith, decimal-upto 9 l.0 (omega arith))
type-most Absolute (Notional l) h = let most : l.0 ≤ 100_000_000_000 = search tests in omega (arith, decimal-upto 11 l.0 (omega arith))
type-most Absolute (Volume l) h = let most : l.0 ≤ 1_000_000_000 = search tests in omega (arith, decimal-upto 9 l.0 (omega arith))
type-most Absolute (Count l) h = let most : l.0 ≤ 1_000_000_000 = search tests in omega (arith, decimal-upto 9 l.0 (omega arith))

root-most : (roots : List ℕ) (scope : Scope) → are_roots roots ≡ true → is_scope (length roots) scope ≡ true → length (root_text roots scope) ≤ 6
unfolding root_text is_scope
root-most roots EveryFill r h = omega arith
root-most roots (WholeRoot root) r h = name-most 1 6 (get_or roots root 0) (root-name roots root r (search tests))
root-most roots (OneUnit root unit) r h = name-most 1 6 (get_or roots root 0) (root-name roots root r (search tests))

end-most : (kind : Kind) (scope : Scope) → is_kind kind ≡ true → length (end_text kind scope) ≤ 14
unfolding is_kind
end-most (Rate w) scope h =
    let most : w ≤ 86_400_000 = search tests in
    omega (arith, rate-long w scope, decimal-upto 7 w (omega arith), letters-few scope)
end-most Absolute scope h = omega (arith, absolute-few scope)

module _ (firm : ℕ) (roots : List ℕ) (rule : Rule) (f : is_name_number 1 4 firm ≡ true) (r : are_roots roots ≡ true) (h : is_rule (length roots) rule ≡ true) where
  pub line-most : length (line_text firm roots rule) ≤ 48
  line-most =
      omega (
        arith,
        line-long firm roots rule,
        name-most 1 4 firm f,
        type-most rule.kind rule.limit (rule-limit (length roots) rule h),
        root-most roots rule.scope r (rule-scope (length roots) rule h),
        end-most rule.kind rule.scope (rule-kind (length roots) rule h),
      )
