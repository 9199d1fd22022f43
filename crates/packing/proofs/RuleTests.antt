-- The tests of a rule's two numbers, part by part, as code runs them. Assumes nothing.
use Rattle.std.proofs.Common.{◌≡◌, ℕ, zero, suc, ◌+◌, ◌-◌, ◌/◌, ◌%◌, ◌^◌, ◌<◌, ◌≤◌, Bool, true, false, cond, ◌&&◌, eqb, ltb, leb, List, [], ◌∷◌, length, get_or, drop, sym, refl, ap, ◌∙◌, ap₂, zero-le, le_trans, le_refl, lt_of_le_of_lt, mod-lt, arith, pow_pos, eq-eqb, ne_eqb, eqb-true, le-leb, leb-false, leb-true}
use mathlib.Core.Bool.{and-true, and_comm}
use borrow.Author.Tests.{lt-leb}
use Rattle.laws.proofs.Tests.{and_l, and_r, and_i, same_test}
use Rattle.laws.specs.Lists.{same}
use Rattle.measures.specs.Ranges.{◌to◌, is_in}
use Rattle.bits.specs.Fields.{packed, unpacked, Fit}
use Rattle.rules.specs.declared.Scope.{Scope}
use Rattle.rules.specs.declared.Scope.TheVariants.{EveryFill, WholeRoot, OneUnit}
use Rattle.rules.specs.declared.Kind.{Kind}
use Rattle.rules.specs.declared.Kind.TheVariants.{Rate, Absolute}
use Rattle.rules.specs.declared.Limit.{Limit}
use Rattle.rules.specs.declared.Rule.{Rule}
use Rattle.tables.specs.Inner.Tables.{is_place}
use Rattle.packing.specs.RulePlace.{limit_number, measure_number, window_number, kind_number, scope_number, root_number, unit_number, limit_widths, scope_widths, limit_values, scope_values, rule_numbers, limit_from, kind_from, scope_from, rule_from, rule_at, is_limit_place, is_kind_place, is_scope_place, is_rule_place}
use Rattle.rules.specs.Valid.{is_limit, is_kind, is_scope, is_rule}
use Rattle.packing.specs.Gaps.{gap_of}
use Rattle.packing.proofs.Parts.{told, field-test}
use Rattle.packing.proofs.RulePlace.{kind-back, limit-back, limit-fields, measure-most, rule-in, scope-back, scope-fields, scope-fits}

-- the tests of the parts, case by case
pub zero_test : (n : ℕ) → leb n 0 ≡ eqb n 0
zero_test zero = refl
zero_test (suc n) = rw (lt-leb (suc n) 0 (omega arith), ne_eqb (suc n) 0 (λ e. omega arith))

-- a number lies in a range just if its distance from the least, which wraps below it, is at most the range's width
pub within_test : (n least most : ℕ) → n < 18_446_744_073_709_551_616 → least ≤ most → most < 18_446_744_073_709_551_616
    → leb (gap_of n least) (most - least) ≡ is_in (least to most) n
unfolding gap_of
within_test n least most low some high = go (leb least n) refl (leb n most) refl
  where
    go : (x : Bool) → leb least n ≡ x → (y : Bool) → leb n most ≡ y → leb (gap_of n least) (most - least) ≡ (x && y)
    go true e true f = let l = leb-true least n e in let m = leb-true n most f in le-leb (gap_of n least) (most - least) (omega arith)
    go true e false f = let l = leb-true least n e in let m = leb-false n most f in lt-leb (gap_of n least) (most - least) (omega arith)
    go false e y f = let l = leb-false least n e in lt-leb (gap_of n least) (most - least) (omega arith)

pub limit_test : (m n : ℕ) → (leb m 2 && is_in (1 to cond (eqb m 0) 100_000_000_000 1_000_000_000) n) ≡ is_limit_place m n
unfolding is_limit_place is_limit limit_from
limit_test zero n = rw (eq-eqb n n refl)
limit_test (suc zero) n = rw (eq-eqb n n refl)
limit_test (suc (suc zero)) n = rw (eq-eqb n n refl)
limit_test (suc (suc (suc m))) n =
    let k = suc (suc (suc m)) in
    rw (lt-leb k 2 (omega arith), ne_eqb k 0 (λ e. omega arith), ne_eqb k 1 (λ e. omega arith), ne_eqb k 2 (λ e. omega arith))

pub kind_test : (n w : ℕ) → (leb n 1 && is_in (cond (eqb n 0) 100 0 to cond (eqb n 0) 86_400_000 0) w) ≡ is_kind_place n w
unfolding is_kind_place is_kind kind_from
kind_test zero w = rw (eq-eqb w w refl)
kind_test (suc zero) w = rw (le-leb 0 w zero-le, zero_test w, and-true)
kind_test (suc (suc n)) w =
    let k = suc (suc n) in
    rw (lt-leb k 1 (omega arith), ne_eqb k 0 (λ e. omega arith), ne_eqb k 1 (λ e. omega arith))

-- a scope by its number: every fill, a whole root, and one unit or none of these
module _ (roots n r u : ℕ) where
  pub scope_every : n ≡ 0 → (eqb r 0 && eqb u 0) ≡ is_scope_place roots n r u
  unfolding is_scope_place is_scope scope_from
  scope_every e = rw (e, and-true)

  pub scope_whole : n ≡ 1 → (ltb r roots && eqb u 0) ≡ is_scope_place roots n r u
  unfolding is_scope_place is_scope scope_from
  scope_whole e = rw (e, eq-eqb r r refl) (and_comm (ltb r roots) (eqb u 0))

  pub scope_unit : (n ≡ 0 → ⊥) → (n ≡ 1 → ⊥) → (eqb n 2 && ltb r roots && leb u 3) ≡ is_scope_place roots n r u
  unfolding is_scope_place is_scope scope_from
  scope_unit e f = rw (ne_eqb n 0 e, ne_eqb n 1 f, eq-eqb r r refl, eq-eqb u u refl, le-leb 0 u zero-le) (go (eqb n 2) (ltb r roots) (leb u 3))
    where
      go : (a b c : Bool) → (a && b && c) ≡ (a && true && true && (b && c))
      go true b c = refl
      go false b c = refl

-- a measure that is known has nothing above it
measure-known : (m n : ℕ) → is_limit_place m n ≡ true → m ≤ 2
unfolding is_limit_place
measure-known m n h =
    let limit = limit_from m n in
    let e = eqb-true m (measure_number limit) (and_l (eqb m (measure_number limit)) (eqb n (limit_number limit)) (and_l (eqb m (measure_number limit) && eqb n (limit_number limit)) (is_limit limit) h)) in
    omega (arith, measure-most limit)

measure-whole : (m n : ℕ) → is_limit_place m n ≡ (eqb (m / 4) 0 && is_limit_place (m % 4) n)
measure-whole m n =
    same_test (is_limit_place m n) (eqb (m / 4) 0 && is_limit_place (m % 4) n)
    (λ h. let l = measure-known m n h in
    and_i (eq-eqb (m / 4) 0 (omega arith)) (let e : m % 4 ≡ m = omega arith in rw e h))
    (λ h. let z = eqb-true (m / 4) 0 (and_l (eqb (m / 4) 0) (is_limit_place (m % 4) n) h) in
    let e : m % 4 ≡ m = omega arith in
    rw e at (and_r (eqb (m / 4) 0) (is_limit_place (m % 4) n) h))

-- what the rule of any numbers has in its fields is no more than stood there
window-kept : (k w : ℕ) → window_number (kind_from k w) ≤ w
unfolding kind_from
window-kept k w = go (eqb k 0)
  where
    go : (a : Bool) → window_number (cond a (Rate w) Absolute) ≤ w
    go true = le_refl w
    go false = zero-le

scope_kept : (c r u : ℕ) → (root_number (scope_from c r u) ≤ r) × (unit_number (scope_from c r u) ≤ u)
unfolding scope_from
scope_kept c r u = go (eqb c 0) (eqb c 1)
  where
    go : (a b : Bool) → let scope = cond a EveryFill (cond b (WholeRoot r) (OneUnit r u)) in (root_number scope ≤ r) × (unit_number scope ≤ u)
    go true b = (zero-le, zero-le)
    go false true = (le_refl r, zero-le)
    go false false = (le_refl r, le_refl u)

-- a conjunction of tests, field by field, put together part by part
regroup : (l w p m k c r u lim kin sco : Bool)
    → ((l && (w && true)) && ((p && (m && (k && (c && (r && (u && true)))))) && true)) && (lim && kin && sco)
    ≡ (p && (m && l && lim) && (k && w && kin) && (c && r && u && sco))
regroup l w p m k c r u lim kin sco =
    same_test _ (p && (m && l && lim) && (k && w && kin) && (c && r && u && sco)) (λ h. search (and_l, and_r, and_i) depth 20) (λ h. search (and_l, and_r, and_i) depth 20)

-- two numbers that hold these fields are a rule's place exactly if each part is one
module _ (roots f s l w p m k c r u : ℕ) (rest : List ℕ) (w-lt : w < 2 ^ 27) (r-le : r ≤ 63) (u-le : u ≤ 3)
    (first : unpacked limit_widths f ≡ l ∷ w ∷ []) (second : unpacked scope_widths s ≡ p ∷ m ∷ k ∷ c ∷ r ∷ u ∷ []) where
  rule : Rule
  rule = rule_from (l ∷ w ∷ []) (p ∷ m ∷ k ∷ c ∷ r ∷ u ∷ [])

  limit-same : eqb f (packed limit_widths (limit_values rule)) ≡ same (l ∷ w ∷ []) (limit_values rule)
  unfolding rule rule_from limit_values Fit
  limit-same =
      field-test 37 _ (27 ∷ []) (window_number (kind_from k w) ∷ []) f (lt_of_le_of_lt (window-kept k w) w-lt, tt)
      ∙ ap (λ (v : List ℕ). same v (limit_values rule)) first

  scope-same : eqb s (packed scope_widths (scope_values rule)) ≡ same (p ∷ m ∷ k ∷ c ∷ r ∷ u ∷ []) (scope_values rule)
  unfolding rule rule_from scope_values Fit
  scope-same =
      let kept = scope_kept c r u in
      field-test 51 0 _ _ s (scope-fits rule (le_trans kept.0 r-le) (le_trans kept.1 u-le)).1
      ∙ ap (λ (v : List ℕ). same v (scope_values rule)) second

  rule-parts : is_rule_place roots (f ∷ s ∷ rest) ≡ (eqb p 0 && is_limit_place m l && is_kind_place k w && is_scope_place roots c r u)
  unfolding is_place rule_at rule_numbers same rule rule_from limit_values scope_values is_rule is_limit_place is_kind_place is_scope_place
  rule-parts =
      let limit = limit_from m l in
      let kind = kind_from k w in
      let scope = scope_from c r u in
      ap (λ (x : Rule). same (f ∷ s ∷ []) (rule_numbers x) && is_rule roots x) (ap₂ rule_from first second)
      ∙ ap₂ (λ (a b : Bool). (a && (b && true)) && is_rule roots rule) limit-same scope-same
      ∙ regroup (eqb l (limit_number limit)) (eqb w (window_number kind)) (eqb p 0) (eqb m (measure_number limit)) (eqb k (kind_number kind))
      (eqb c (scope_number scope)) (eqb r (root_number scope)) (eqb u (unit_number scope)) (is_limit limit) (is_kind kind) (is_scope roots scope)

-- each of them by a shift and a mask, as code tests them
pub rule-place : (roots f s : ℕ) (rest : List ℕ)
    → is_rule_place roots (f ∷ s ∷ rest)
    ≡ (is_limit_place (s / 2048) (f / 134_217_728) && is_kind_place (s / 1024 % 2) (f % 134_217_728) && is_scope_place roots (s / 256 % 4) (s / 4 % 64) (s % 4))
rule-place roots f s rest =
    let top : s / 2048 / 4 ≡ s / 8192 = omega arith in
    rule-parts roots f s _ _ _ _ _ _ _ _ rest (mod-lt f (pow_pos 27)) (omega arith) (omega arith) (limit-fields f) (scope-fields s)
    ∙ ap (λ (b : Bool). b && is_kind_place (s / 1024 % 2) (f % 134_217_728) && is_scope_place roots (s / 256 % 4) (s / 4 % 64) (s % 4))
    (sym (measure-whole (s / 2048) (f / 134_217_728) ∙ ap (λ (t : ℕ). eqb t 0 && is_limit_place (s / 2048 % 4) (f / 134_217_728)) top))

-- limit and kind decide, or the scope does
module _ (roots f s : ℕ) {l k : Bool} (limit : l ≡ is_limit_place (s / 2048) (f / 134_217_728)) (kind : k ≡ is_kind_place (s / 1024 % 2) (f % 134_217_728)) where
  pub rule-off : (l && k) ≡ false → false ≡ is_rule_place roots (f ∷ s ∷ [])
  rule-off h = sym (rule-place roots f s [] ∙ rw (← limit, ← kind, h))

  pub rule-on : (l && k) ≡ true → {c : Bool} → c ≡ is_scope_place roots (s / 256 % 4) (s / 4 % 64) (s % 4) → c ≡ is_rule_place roots (f ∷ s ∷ [])
  rule-on h e = e ∙ sym (rule-place roots f s [] ∙ rw (← limit, ← kind, h))

-- the window's field of a rule's first number is its window
kind-known : (n w : ℕ) → is_kind_place n w ≡ true → w ≡ window_number (kind_from n w)
unfolding is_kind_place
kind-known n w h =
    let kind = kind_from n w in
    let fields = eqb n (kind_number kind) && eqb w (window_number kind) in
    eqb-true w (window_number kind) (and_r (eqb n (kind_number kind)) (eqb w (window_number kind)) (and_l fields (is_kind kind) h))

pub window-told : (roots f s : ℕ) (rest : List ℕ) → is_rule_place roots (f ∷ s ∷ rest) ≡ true → f % 134_217_728 ≡ window_number (rule_at (f ∷ s ∷ rest)).kind
window-told roots f s rest h =
    let limit = is_limit_place (s / 2048) (f / 134_217_728) in
    let kind = is_kind_place (s / 1024 % 2) (f % 134_217_728) in
    let parts = and_l (limit && kind) (is_scope_place roots (s / 256 % 4) (s / 4 % 64) (s % 4)) (sym (rule-place roots f s rest) ∙ h) in
    kind-known _ _ (and_r limit kind parts) ∙ ap (λ (rule : Rule). window_number rule.kind) (sym (rule-in f s rest))

-- a rule's own numbers are a place of its parts exactly if a profile may hold it
limit-valid : (limit : Limit) → is_limit_place (measure_number limit) (limit_number limit) ≡ is_limit limit
unfolding is_limit_place
limit-valid limit = rw (limit-back limit, eq-eqb (measure_number limit) (measure_number limit) refl, eq-eqb (limit_number limit) (limit_number limit) refl)

kind-valid : (kind : Kind) → is_kind_place (kind_number kind) (window_number kind) ≡ is_kind kind
unfolding is_kind_place
kind-valid kind = rw (kind-back kind, eq-eqb (kind_number kind) (kind_number kind) refl, eq-eqb (window_number kind) (window_number kind) refl)

scope-valid : (roots : ℕ) (scope : Scope) → is_scope_place roots (scope_number scope) (root_number scope) (unit_number scope) ≡ is_scope roots scope
unfolding is_scope_place
scope-valid roots scope =
    rw (
      scope-back scope,
      eq-eqb (scope_number scope) (scope_number scope) refl,
      eq-eqb (root_number scope) (root_number scope) refl,
      eq-eqb (unit_number scope) (unit_number scope) refl,
    )

pub rule_valid : (roots : ℕ) (rule : Rule) → let limit = rule.limit in let kind = rule.kind in let scope = rule.scope in
    (is_limit_place (measure_number limit) (limit_number limit)
    && is_kind_place (kind_number kind) (window_number kind)
    && is_scope_place roots (scope_number scope) (root_number scope) (unit_number scope))
    ≡ is_rule roots rule
unfolding is_rule
rule_valid roots rule = rw (limit-valid rule.limit, kind-valid rule.kind, scope-valid roots rule.scope)

-- whether a rule stands at a place, by its two numbers as code reads them
pub is-rule-here : (xs : List ℕ) (at : ℕ) → at + 1 < length xs → (roots : ℕ)
    → is_rule_place roots (get_or xs at 0 ∷ get_or xs (at + 1) 0 ∷ []) ≡ is_rule_place roots (drop at xs)
is-rule-here xs at h roots = told (is_rule_place roots) (λ a b rest. rule-place roots a b rest ∙ sym (rule-place roots a b [])) xs at h
