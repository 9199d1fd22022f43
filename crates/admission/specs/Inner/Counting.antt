-- What stands in the tally and in the counts after some rules, and what becomes of the next one. Assumes nothing.
use Rattle.std.specs.Prelude.{ℕ, ◌+◌, ◌*◌, ◌/◌, ◌%◌, ◌≤◌, ◌<◌, ◌≡◌, Bool, true, false, cond, ◌||◌, List, [], ◌∷◌, ◌++◌, length, get_or, ltb, Option}
use Rattle.rules.specs.Rules.{covers}
use Rattle.rules.specs.Valid.{is_scope}
use Rattle.rules.specs.declared.Scope.{Scope}
use Rattle.rules.specs.declared.Scope.TheVariants.{EveryFill, WholeRoot, OneUnit}
use Rattle.rules.specs.declared.Rule.{Rule}
use Rattle.admission.specs.Admission.{how_many, is_firm_rule, on_unit, seen_after, may_join, Bounded}
use Rattle.admission.specs.declared.Tally.{Tally}
use Rattle.std.specs.declared.option.Option.TheVariants.{None, Some}

-- the counts of a root's four units in one number, a byte each
abbrev pub in_one : (ℕ → ℕ) → ℕ
in_one count = count 0 + count 1 * 256 + count 2 * 65536 + count 3 * 16777216

-- one of them is above 6
abbrev pub over_in : ℕ → Bool
over_in w = ltb 6 (w % 256) || ltb 6 (w / 256 % 256) || ltb 6 (w / 65536 % 256) || ltb 6 (w / 16777216)

-- none of them is above 7
abbrev pub FewIn : ℕ → Type 0
FewIn w = (w % 256 ≤ 7) × (w / 256 % 256 ≤ 7) × (w / 65536 % 256 ≤ 7) × (w / 16777216 ≤ 7)

-- what a scope adds to the number of a root: 1 on each unit that it covers
abbrev pub covered_in : Scope → ℕ → ℕ
covered_in scope root = in_one (λ unit. cond (covers scope root unit) 1 0)

-- these rules are counted, and none is one too many
pub record SoFar (rules : List Rule) (tally : Tally) (counts : List ℕ) : Type 0 where
  pub rules-are : tally.rules ≡ length rules
  pub firms-are : tally.firms ≡ how_many is_firm_rule rules
  pub roots-most : tally.seen ≤ 64
  pub long : length counts ≡ 64
  pub counts-are : (root : ℕ) → root < 64 → get_or counts root 0 ≡ in_one (λ unit. how_many (on_unit root unit) rules)
  pub bounded : Bounded rules

-- some rules are counted so
abbrev pub CountsSome : Tally → List ℕ → Type 0
CountsSome tally counts = (rules : List Rule) × SoFar rules tally counts

-- before the first rule
abbrev pub no_rules : Tally
no_rules = record { rules = 0; seen = 0; firms = 0 }

-- what became of a rule: it is counted with those before it, or it may not join them and nothing is changed
unfoldable pub Follows : List Rule → Tally → Rule → Option Tally → List ℕ → List ℕ → Type 0
Follows before tally rule (Some next) counts after =
    (may_join before tally.seen rule ≡ true) × (next.seen ≡ seen_after rule.scope tally.seen) × SoFar (before ++ (rule ∷ [])) next after
Follows before tally rule None counts after = (may_join before tally.seen rule ≡ false) × (after ≡ counts)

-- a scope with a number for its root, below some number, and one of the four units
abbrev pub Numbered : Scope → Type 0
Numbered scope = (n : ℕ) × (is_scope n scope ≡ true)

-- the root of a scope
unfoldable pub RootIs : ℕ → Scope → Type 0
RootIs root EveryFill = ⊥
RootIs root (WholeRoot r) = r ≡ root
RootIs root (OneUnit r unit) = r ≡ root
