-- How many rules there are at each level with one rule more, and that none is too many there. Assumes nothing.
use Prim.Native.Nat.{ℕ, zero, suc, ◌+◌, ◌*◌, ◌%◌, ◌^◌, ◌≤◌, ◌<◌}
use mathlib.Core.Path.{◌≡◌, refl, sym, ap, ap₂, ◌∙◌}
use mathlib.Core.Bool.{Bool, true, false, cond, ◌&&◌, ◌||◌, and-false, or-false, false≢true}
use mathlib.Core.List.{List, [], ◌∷◌, ◌++◌, append-nil}
use lib.Seq.{append_snoc}
use lib.Dec.{eqb, leb, ltb}
use borrow.Author.Tests.{eqb-true, eq-eqb, ne_eqb, ltb-false, le-ltb, leb-true, not-true}
use native.Mathlib.Omega.{arith}
use Rattle.laws.proofs.Tests.{and_l, and_r, tests}
use Rattle.measures.specs.Ranges.{is_in, units}
use Rattle.rules.specs.Rules.{covers}
use Rattle.rules.specs.declared.Scope.{Scope}
use Rattle.rules.specs.declared.Scope.TheVariants.{EveryFill, WholeRoot, OneUnit}
use Rattle.rules.specs.declared.Kind.{Kind}
use Rattle.rules.specs.declared.Limit.{Limit}
use Rattle.rules.specs.declared.Rule.{Rule}
use Rattle.rules.specs.Valid.{is_scope}
use Rattle.admission.specs.Admission.{how_many, is_firm_rule, on_unit, crowded, seen_after, may_follow, are_in_order, Bounded}
use Rattle.admission.specs.Inner.Counting.{in_one, covered_in, RootIs}

-- a disjunction that does not hold
pub or_l : (a b : Bool) → (a || b) ≡ false → a ≡ false
or_l true b e = e
or_l false b e = refl

pub or_r : (a b : Bool) → (a || b) ≡ false → b ≡ false
or_r true b e = absurd (false≢true (sym e))
or_r false b e = e

-- what holds of the four units holds of each
four : (P : ℕ → Type 0) → P 0 → P 1 → P 2 → P 3 → (unit : ℕ) → unit < 4 → P unit
four P a b c d zero h = a
four P a b c d (suc zero) h = b
four P a b c d (suc (suc zero)) h = c
four P a b c d (suc (suc (suc zero))) h = d
four P a b c d (suc (suc (suc (suc u)))) h = absurd (omega arith)

-- one rule more at the end
pub how_many-more : (test : Rule → Bool) (rules : List Rule) (rule : Rule) → how_many test (rules ++ (rule ∷ [])) ≡ how_many test rules + cond (test rule) 1 0
unfolding how_many
how_many-more test [] rule = omega arith
how_many-more test (r ∷ rules) rule = omega (arith, how_many-more test rules rule)

-- where a scope is not crowded, no unit that it covers has more than 6 rules, and there are at most 10 firm rules
module _ (rules : List Rule) where
  whole-few : (root : ℕ) → crowded rules (WholeRoot root) ≡ false → (unit : ℕ) → unit < 4 → how_many (on_unit root unit) rules ≤ 6
  unfolding crowded
  whole-few root h =
      let full : ℕ → Bool = λ unit. ltb 6 (how_many (on_unit root unit) rules) in
      let few : (unit : ℕ) → full unit ≡ false → how_many (on_unit root unit) rules ≤ 6 = λ unit e. ltb-false 6 (how_many (on_unit root unit) rules) e in
      let three = or_l (full 0 || full 1 || full 2) (full 3) h in
      let two = or_l (full 0 || full 1) (full 2) three in
      four (λ unit. how_many (on_unit root unit) rules ≤ 6) (few 0 (or_l (full 0) (full 1) two)) (few 1 (or_r (full 0) (full 1) two))
      (few 2 (or_r (full 0 || full 1) (full 2) three)) (few 3 (or_r (full 0 || full 1 || full 2) (full 3) h))

  units-few : (s : Scope) (k : Kind) (l : Limit) (root unit : ℕ) → unit < 4 → crowded rules s ≡ false
      → on_unit root unit (record { scope = s; kind = k; limit = l }) ≡ true → how_many (on_unit root unit) rules ≤ 6
  unfolding crowded on_unit is_firm_rule covers
  units-few EveryFill k l root unit u h e = absurd (false≢true e)
  units-few (WholeRoot r) k l root unit u h e = rw (eqb-true r root e) at (whole-few r h unit u)
  units-few (OneUnit r v) k l root unit u h e =
      rw (eqb-true r root (and_l (eqb r root) (eqb v unit) e), eqb-true v unit (and_r (eqb r root) (eqb v unit) e)) at (ltb-false 6 (how_many (on_unit r v) rules) h)

  firm-few : (s : Scope) (k : Kind) (l : Limit) → crowded rules s ≡ false → is_firm_rule (record { scope = s; kind = k; limit = l }) ≡ true
      → how_many is_firm_rule rules ≤ 10
  unfolding crowded is_firm_rule
  firm-few EveryFill k l h e = ltb-false 10 (how_many is_firm_rule rules) h
  firm-few (WholeRoot r) k l h e = absurd (false≢true e)
  firm-few (OneUnit r v) k l h e = absurd (false≢true e)

-- a count stays within its bound with one rule more, if it does so where that rule passes the test
within : (test : Rule → Bool) (rules : List Rule) (rule : Rule) (most : ℕ) → how_many test rules ≤ most
    → (test rule ≡ true → how_many test (rules ++ (rule ∷ [])) ≤ most) → how_many test (rules ++ (rule ∷ [])) ≤ most
within test rules rule most h new = go (test rule) refl
  where
    go : (t : Bool) → test rule ≡ t → how_many test (rules ++ (rule ∷ [])) ≤ most
    go true e = new e
    go false e = rw (how_many-more test rules rule, e) (omega arith)

-- so a rule whose scope is not crowded with it leaves the bounds, and rules in order keep them
pub bounded-none : Bounded []
unfolding how_many
bounded-none = record { firm-most = omega arith; unit-most = λ root unit u. omega arith }

pub bounded-more : {rules : List Rule} → Bounded rules → (rule : Rule) → crowded (rules ++ (rule ∷ [])) rule.scope ≡ false → Bounded (rules ++ (rule ∷ []))
bounded-more {rules} most rule free =
    let after = rules ++ (rule ∷ []) in
    record {
      firm-most = within is_firm_rule rules rule 10 most.firm-most (firm-few after rule.scope rule.kind rule.limit free);
      unit-most = λ root unit u.
          within (on_unit root unit) rules rule 6 (most.unit-most root unit u) (units-few after rule.scope rule.kind rule.limit root unit u free);
    }

pub ordered-bounded : (n : ℕ) (before : List Rule) (seen : ℕ) (rules : List Rule) → are_in_order n before seen rules ≡ true → Bounded before → Bounded (before ++ rules)
unfolding are_in_order
ordered-bounded n before seen [] h most = rw append-nil most
ordered-bounded n before seen (rule ∷ rules) h most =
    let more = before ++ (rule ∷ []) in
    let free = not-true (crowded more rule.scope) (search tests) in
    rw append_snoc at (ordered-bounded n more (seen_after rule.scope seen) rules (search tests) (bounded-more most rule free))

-- one rule more that may follow
pub order-more : (n : ℕ) (before : List Rule) (seen : ℕ) (rules : List Rule) (rule : Rule) → are_in_order n before seen rules ≡ true
    → may_follow (before ++ rules) n rule ≡ true → are_in_order (seen_after rule.scope n) before seen (rules ++ (rule ∷ [])) ≡ true
unfolding are_in_order
order-more n before seen [] rule h e =
    rw (eqb-true seen n h) (ap₂ (λ a b. a && b) (rw append-nil at e) (eq-eqb (seen_after rule.scope n) _ refl))
order-more n before seen (r ∷ rules) rule h e =
    ap₂ (λ a b. a && b) (and_l (may_follow before seen r) (are_in_order n (before ++ (r ∷ [])) (seen_after r.scope seen) rules) h)
    (order-more n (before ++ (r ∷ [])) (seen_after r.scope seen) rules rule (search tests) (rw append_snoc e))

-- a scope of a root covers units of that root alone
module _ (root : ℕ) where
  scope-on : (other unit : ℕ) (s : Scope) (k : Kind) (l : Limit) → RootIs root s
      → on_unit other unit (record { scope = s; kind = k; limit = l }) ≡ covers s other unit
  unfolding RootIs on_unit is_firm_rule
  scope-on other unit EveryFill k l n = absurd n
  scope-on other unit (WholeRoot r) k l n = refl
  scope-on other unit (OneUnit r v) k l n = refl

  pub scope-off : (other unit : ℕ) (s : Scope) → RootIs root s → (root ≡ other → ⊥) → covers s other unit ≡ false
  unfolding RootIs covers
  scope-off other unit EveryFill n d = absurd n
  scope-off other unit (WholeRoot r) n d = rw n (ne_eqb root other d)
  scope-off other unit (OneUnit r v) n d = rw (n, ne_eqb root other d)

  pub not-firm : (s : Scope) (k : Kind) (l : Limit) → RootIs root s → is_firm_rule (record { scope = s; kind = k; limit = l }) ≡ false
  unfolding RootIs is_firm_rule
  not-firm EveryFill k l n = absurd n
  not-firm (WholeRoot r) k l n = refl
  not-firm (OneUnit r v) k l n = refl

-- where at most one of four numbers is above 6, a test of that one is a test of all
one-over : (n : ℕ → ℕ) (v : ℕ) → v < 4 → ((u : ℕ) → u < 4 → (u ≡ v → ⊥) → n u ≤ 6) → ltb 6 (n v) ≡ (ltb 6 (n 0) || ltb 6 (n 1) || ltb 6 (n 2) || ltb 6 (n 3))
one-over n v h few =
    four (λ v. ((u : ℕ) → u < 4 → (u ≡ v → ⊥) → ltb 6 (n u) ≡ false) → ltb 6 (n v) ≡ (ltb 6 (n 0) || ltb 6 (n 1) || ltb 6 (n 2) || ltb 6 (n 3)))
    (λ off. rw (off 1 (omega arith) (λ e. omega arith), off 2 (omega arith) (λ e. omega arith), off 3 (omega arith) (λ e. omega arith)) (simp or-false))
    (λ off. rw (off 0 (omega arith) (λ e. omega arith), off 2 (omega arith) (λ e. omega arith), off 3 (omega arith) (λ e. omega arith)) (simp or-false))
    (λ off. rw (off 0 (omega arith) (λ e. omega arith), off 1 (omega arith) (λ e. omega arith), off 3 (omega arith) (λ e. omega arith)) (simp or-false))
    (λ off. rw (off 0 (omega arith) (λ e. omega arith), off 1 (omega arith) (λ e. omega arith), off 2 (omega arith) (λ e. omega arith)))
    v h (λ u k d. le-ltb 6 (n u) (few u k d))

pub unit-known : (n r unit : ℕ) → is_scope n (OneUnit r unit) ≡ true → unit < 4
unfolding is_scope
unit-known n r unit h = omega (arith, leb-true unit 3 (and_r (leb 0 unit) (leb unit 3) (and_r (ltb r n) (is_in units unit) h)))

-- a scope of a root is crowded if one of that root's units has more than 6 rules, where no unit that it does not cover has
pub crowded-over : (n root : ℕ) (rules : List Rule) (s : Scope) → RootIs root s → is_scope n s ≡ true
    → ((u : ℕ) → u < 4 → covers s root u ≡ false → how_many (on_unit root u) rules ≤ 6) → crowded rules s ≡ crowded rules (WholeRoot root)
unfolding RootIs crowded covers
crowded-over n root rules EveryFill own h few = absurd own
crowded-over n root rules (WholeRoot r) own h few = rw own
crowded-over n root rules (OneUnit r v) own h few =
    rw own
    (one-over (λ u. how_many (on_unit root u) rules) v (unit-known n r v h)
    (λ u k d. few u k (rw (ne_eqb v u (λ e. d (sym e))) (and-false (eqb r root)))))

-- what a scope adds to the number of its root, as code writes it
pub whole-share : (r root : ℕ) → RootIs root (WholeRoot r) → 16_843_009 ≡ covered_in (WholeRoot r) root
unfolding RootIs covers
whole-share r root own = rw (own, eq-eqb root root refl)

pub unit-share : (r root unit : ℕ) → RootIs root (OneUnit r unit) → unit < 4 → (1 * 2 ^ (unit * 8)) % 18446744073709551616 ≡ covered_in (OneUnit r unit) root
unfolding RootIs covers
unit-share r root unit own h =
    rw (own, eq-eqb root root refl)
    (four (λ u. (1 * 2 ^ (u * 8)) % 18446744073709551616 ≡ in_one (λ v. cond (eqb u v) 1 0)) refl refl refl refl unit h)

-- a rule of a root counts on the units of it that it covers
pub on-more : (root : ℕ) (rules : List Rule) (rule : Rule) → RootIs root rule.scope → (other unit : ℕ)
    → how_many (on_unit other unit) (rules ++ (rule ∷ [])) ≡ how_many (on_unit other unit) rules + cond (covers rule.scope other unit) 1 0
on-more root rules rule own other unit =
    how_many-more (on_unit other unit) rules rule
    ∙ ap (λ (t : Bool). how_many (on_unit other unit) rules + cond t 1 0) (scope-on root other unit rule.scope rule.kind rule.limit own)
