-- Which rules may stand one after the other in a profile: roots by first appearance, and document 01's most at each level. Assumes nothing.
use Rattle.std.specs.Prelude.{ℕ, suc, ◌+◌, ◌≤◌, ◌<◌, max, Bool, true, false, not, cond, ◌&&◌, ◌||◌, List, [], ◌∷◌, ◌++◌, length, eqb, leb, ltb}
use Rattle.rules.specs.Rules.{covers}
use Rattle.rules.specs.declared.Scope.{Scope}
use Rattle.rules.specs.declared.Scope.TheVariants.{EveryFill, WholeRoot, OneUnit}
use Rattle.rules.specs.declared.Rule.{Rule}

-- how many rules pass a test
unfoldable pub how_many : (Rule → Bool) → List Rule → ℕ
how_many test [] = 0
how_many test (rule ∷ rules) = cond (test rule) 1 0 + how_many test rules

unfoldable pub is_firm_rule : Rule → Bool
is_firm_rule rule = is_firm rule.scope
  where
    is_firm : Scope → Bool
    is_firm EveryFill = true
    is_firm (WholeRoot root) = false
    is_firm (OneUnit root unit) = false

-- a root rule that covers a unit of a root
unfoldable pub on_unit : ℕ → ℕ → Rule → Bool
on_unit root unit rule = cond (is_firm_rule rule) false (covers rule.scope root unit)

-- more than 10 firm rules, or more than 6 root rules covering a unit that this scope covers
unfoldable pub crowded : List Rule → Scope → Bool
crowded rules EveryFill = ltb 10 (how_many is_firm_rule rules)
crowded rules (WholeRoot root) =
    ltb 6 (how_many (on_unit root 0) rules) || ltb 6 (how_many (on_unit root 1) rules) || ltb 6 (how_many (on_unit root 2) rules)
    || ltb 6 (how_many (on_unit root 3) rules)
crowded rules (OneUnit root unit) = ltb 6 (how_many (on_unit root unit) rules)

-- so many roots and these rules, the last of them with this scope: more than 256 rules or 64 roots, or too many rules at its level
abbrev pub overfull : List Rule → ℕ → Scope → Bool
overfull rules roots scope = ltb 256 (length rules) || ltb 64 roots || crowded rules scope

-- how many roots have appeared after a scope, where so many had before: a root's number is at most that
unfoldable pub seen_after : Scope → ℕ → ℕ
seen_after EveryFill seen = seen
seen_after (WholeRoot root) seen = max seen (suc root)
seen_after (OneUnit root unit) seen = max seen (suc root)

unfoldable pub is_next : Scope → ℕ → Bool
is_next EveryFill seen = true
is_next (WholeRoot root) seen = leb root seen
is_next (OneUnit root unit) seen = leb root seen

-- a rule may join these rules, in which so many roots have appeared: its root has appeared or is the next one, and nothing is too many with it
unfoldable pub may_join : List Rule → ℕ → Rule → Bool
may_join before seen rule =
    is_next rule.scope seen && not (overfull (before ++ (rule ∷ [])) (seen_after rule.scope seen) rule.scope)

-- the same where few enough rules and roots are known
abbrev pub may_follow : List Rule → ℕ → Rule → Bool
may_follow before seen rule = is_next rule.scope seen && not (crowded (before ++ (rule ∷ [])) rule.scope)

-- the rules that are left, after these ones in which so many roots have appeared: each names a root that has appeared or the next one, none is
-- one too many at its level, and at the end all n roots have appeared
unfoldable pub are_in_order : ℕ → List Rule → ℕ → List Rule → Bool
are_in_order n before seen [] = eqb seen n
are_in_order n before seen (rule ∷ rest) = may_follow before seen rule && are_in_order n (before ++ (rule ∷ [])) (seen_after rule.scope seen) rest

-- at most 10 firm rules, and 6 root rules covering any one unit of a root
pub record Bounded (rules : List Rule) : Type 0 where
  pub firm-most : how_many is_firm_rule rules ≤ 10
  pub unit-most : (root unit : ℕ) → unit < 4 → how_many (on_unit root unit) rules ≤ 6
