-- The lines of the rules as the loops go through them: those of the rules from place i on are still to be counted, or written. Assumes nothing.
use Prim.Native.Nat.{ℕ, ◌+◌, ◌*◌, ◌≤◌, ◌<◌}
use mathlib.Core.Path.{◌≡◌, refl, sym, ap, ap₂, ◌∙◌}
use mathlib.Core.Bool.{true}
use mathlib.Core.List.{List, [], ◌∷◌, ◌++◌, append_assoc}
use lib.ListN.{length, get_or, drop, length-append}
use lib.Seq.{sets, length-sets}
use native.Mathlib.Omega.{arith}
use Rattle.laws.specs.Folds.{every}
use Rattle.rules.specs.declared.Scope.{Scope}
use Rattle.rules.specs.declared.Scope.TheVariants.{EveryFill, WholeRoot, OneUnit}
use Rattle.rules.specs.declared.Rule.{Rule}
use Rattle.rules.specs.Valid.{is_rule}
use Rattle.text.proofs.Decimal.{decimal-few}
use Rattle.text.proofs.Written.{sets-append}
use Rattle.tables.specs.Inner.Tables.{places}
use Rattle.packing.specs.RulePlace.{limit_number, rule_at}
use Rattle.given.proofs.Names.{name-few}
use Rattle.given.proofs.Order.{rule-scope}
use Rattle.given.proofs.Places.{rules_from, rules-start, rules-on, rules-end}
use Rattle.writing.specs.Writing.{root_text, line_text, lines_text}
use Rattle.writing.specs.Inner.Parts.{names_of, KnownScope, RulesPlaced}
use Rattle.laws.proofs.Every.{every_first, every_rest}
use Rattle.writing.proofs.Cut.{type-few, end-few, line-long}

-- a line is short, whatever stands in the tables
root-few : (roots : List ℕ) (scope : Scope) → length (root_text roots scope) ≤ 8
unfolding root_text
root-few roots EveryFill = omega arith
root-few roots (WholeRoot root) = name-few (get_or roots root 0)
root-few roots (OneUnit root unit) = name-few (get_or roots root 0)

pub line-short : (firm : ℕ) (roots : List ℕ) (rule : Rule) → length (line_text firm roots rule) ≤ 75
line-short firm roots rule =
    omega (arith, line-long firm roots rule, name-few firm, type-few rule.kind rule.limit, root-few roots rule.scope, decimal-few (limit_number rule.limit), end-few rule.kind rule.scope)

-- the rules of a table from place i on: the first of them, and the others
module _ (firm : ℕ) (roots rules : List ℕ) (k : ℕ) where
  -- their lines
  abbrev pub lines_from : ℕ → List ℕ
  lines_from i = lines_text firm (names_of roots) (rules_from k rules i)

  abbrev pub all_lines : List ℕ
  all_lines = lines_text firm (names_of roots) (places 2 rule_at k rules)

  -- each of them is a rule of these roots
  abbrev pub Valid : ℕ → Type 0
  Valid i = every (is_rule (length (names_of roots))) (rules_from k rules i) ≡ true

  lines_start : all_lines ≡ lines_from 0
  lines_start = ap (lines_text firm (names_of roots)) (rules-start k rules)

  lines_end : (i : ℕ) → k ≤ i → lines_from i ≡ []
  unfolding lines_text
  lines_end i h = ap (lines_text firm (names_of roots)) (rules-end k rules i h)

  module _ (i : ℕ) (more : i < k) (rule : Rule) (is : rule ≡ rule_at (drop (i * 2) rules)) where
    next : rules_from k rules i ≡ rule ∷ rules_from k rules (i + 1)
    next = rules-on k rules i more ∙ ap (λ (r : Rule). r ∷ rules_from k rules (i + 1)) (sym is)

    lines-on : lines_from i ≡ (line_text firm (names_of roots) rule ++ (10 ∷ [])) ++ lines_from (i + 1)
    unfolding lines_text
    lines-on = ap (lines_text firm (names_of roots)) next ∙ sym (append_assoc (line_text firm (names_of roots) rule) (10 ∷ []) (lines_from (i + 1)))

    pub known-here : length roots ≡ 65 → Valid i → KnownScope roots rule.scope
    known-here long valid =
        record { long = long; known = rule-scope (length (names_of roots)) rule (every_first (is_rule (length (names_of roots))) rule (rules_from k rules (i + 1)) (rw next at valid)) }

    valid-on : Valid i → Valid (i + 1)
    valid-on valid = every_rest (is_rule (length (names_of roots))) rule (rules_from k rules (i + 1)) (rw next at valid)

    pub one-long : length (lines_from i) ≡ length (line_text firm (names_of roots) rule) + 1 + length (lines_from (i + 1))
    one-long =
        omega (arith, ap length lines-on, length-append (line_text firm (names_of roots) rule ++ (10 ∷ [])) (lines_from (i + 1)), length-append (line_text firm (names_of roots) rule) (10 ∷ []))

  -- the loop that counts
  pub record Counting (size i : ℕ) : Type 0 where
    pub within : i ≤ k
    pub near : size ≤ i * 76
    pub valid : Valid i
    pub counted : size + length (lines_from i) ≡ length all_lines

  pub counting-none : RulesPlaced roots rules k → Counting 0 0
  counting-none p = record {
    within = omega arith;
    near = omega arith;
    valid = rw (rules-start k rules) at p.valid;
    counted = omega (arith, ap length lines_start);
  }

  pub counting-on : {size i : ℕ} → Counting size i → (more : i < k) (rule : Rule) (is : rule ≡ rule_at (drop (i * 2) rules)) (n : ℕ)
      → n ≡ length (line_text firm (names_of roots) rule) + 1 → Counting (size + n) (i + 1)
  counting-on {size} {i} c more rule is n e = record {
    within = omega arith;
    near = omega (arith, c.near, line-short firm (names_of roots) rule);
    valid = valid-on i more rule is c.valid;
    counted = omega (arith, c.counted, one-long i more rule is);
  }

  pub counting-end : {size i : ℕ} → Counting size i → k ≤ i → size ≡ length all_lines
  counting-end {size} {i} c h = omega (arith, c.counted, ap length (lines_end i h))

  -- the loop that writes
  pub record Writing (was room : List ℕ) (to i : ℕ) : Type 0 where
    pub within : i ≤ k
    pub long : length room ≡ length was
    pub valid : Valid i
    pub ends : to + length (lines_from i) ≡ length all_lines
    pub whole : sets was 0 all_lines ≡ sets room to (lines_from i)

  pub writing-none : RulesPlaced roots rules k → (room : List ℕ) → Writing room room 0 0
  writing-none p room = record {
    within = omega arith;
    long = refl;
    valid = rw (rules-start k rules) at p.valid;
    ends = omega (arith, ap length lines_start);
    whole = ap (sets room 0) lines_start;
  }

  pub writing-on : {was room : List ℕ} {to i : ℕ} → Writing was room to i → (more : i < k) (rule : Rule) (is : rule ≡ rule_at (drop (i * 2) rules)) (next : ℕ) (now : List ℕ)
      → next ≡ to + length (line_text firm (names_of roots) rule ++ (10 ∷ [])) → now ≡ sets room to (line_text firm (names_of roots) rule ++ (10 ∷ []))
      → Writing was now next (i + 1)
  writing-on {was} {room} {to} {i} w more rule is next now e p =
      let line = line_text firm (names_of roots) rule ++ (10 ∷ []) in
      record {
        within = omega arith;
        long = ap length p ∙ length-sets room to line ∙ w.long;
        valid = valid-on i more rule is w.valid;
        ends = omega (arith, w.ends, ap length (lines-on i more rule is), length-append line (lines_from (i + 1)));
        whole =
            w.whole ∙ ap (sets room to) (lines-on i more rule is) ∙ sets-append room to line (lines_from (i + 1))
            ∙ ap₂ (λ (r : List ℕ) (t : ℕ). sets r t (lines_from (i + 1))) (sym p) (sym e);
      }

  pub writing-end : {was room : List ℕ} {to i : ℕ} → Writing was room to i → k ≤ i → (to ≡ length all_lines) × (room ≡ sets was 0 all_lines)
  writing-end {was} {room} {to} {i} w h =
      let none = lines_end i h in
      (omega (arith, w.ends, ap length none), sym (w.whole ∙ ap (sets room to) none))
