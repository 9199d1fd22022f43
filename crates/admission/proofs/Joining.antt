-- One rule more after rules that are counted, as the code comes to it: it may not join them, or it is counted with them. Assumes nothing.
use Prim.Native.Nat.{ℕ, ◌+◌, ◌*◌, ◌/◌, ◌%◌, ◌≤◌, ◌<◌, max}
use mathlib.Core.Path.{◌≡◌, refl, sym, ap, ◌∙◌}
use mathlib.Core.Bool.{Bool, true, false, cond, ◌||◌, and-false, or-true, false≢true}
use mathlib.Core.List.{List, [], ◌∷◌, ◌++◌}
use lib.ListN.{length, get_or, set, replicate, get_or-replicate, length-append, length-set}
use lib.Seq.{ext_get_or, get_or-set_same, get_or-set_other}
use lib.Dec.{eqb, leb, ltb}
use borrow.Author.Tests.{eqb-true, eqb-false, lt-ltb, le-ltb, le-leb, lt-leb}
use native.Mathlib.Numerals.{add-one}
use native.Mathlib.Omega.{arith}
use Rattle.rules.specs.Rules.{covers}
use Rattle.rules.specs.Valid.{is_scope}
use Rattle.rules.specs.declared.Scope.{Scope}
use Rattle.rules.specs.declared.Scope.TheVariants.{EveryFill, WholeRoot, OneUnit}
use Rattle.rules.specs.declared.Rule.{Rule}
use Rattle.admission.specs.Admission.{how_many, is_firm_rule, on_unit, crowded, seen_after, is_next, may_join}
use Rattle.admission.specs.Inner.Counting.{in_one, over_in, FewIn, covered_in, SoFar, no_rules, Follows, RootIs}
use Rattle.admission.specs.declared.Tally.{Tally}
use Rattle.std.specs.Prelude.{Option}
use Rattle.std.specs.declared.option.Option.TheVariants.{None, Some}
use Rattle.admission.proofs.Levels.{how_many-more, bounded-none, bounded-more, scope-off, not-firm, crowded-over, on-more}

-- no rule yet
pub none_so_far : SoFar [] no_rules (replicate 64 0)
unfolding how_many
none_so_far = record {
  rules-are = refl;
  firms-are = refl;
  roots-most = omega arith;
  long = refl;
  counts-are = λ root h. get_or-replicate 64 root 0 0 h;
  bounded = bounded-none;
}

-- a scope of a root
module _ (root seen : ℕ) where
  next-is : (s : Scope) → RootIs root s → is_next s seen ≡ leb root seen
  unfolding RootIs is_next
  next-is EveryFill own = absurd own
  next-is (WholeRoot r) own = rw own
  next-is (OneUnit r unit) own = rw own

  seen-is : (s : Scope) → RootIs root s → seen_after s seen ≡ max seen (root + 1)
  unfolding RootIs seen_after
  seen-is EveryFill own = absurd own
  seen-is (WholeRoot r) own = rw (own, add-one)
  seen-is (OneUnit r unit) own = rw (own, add-one)

bit : (b : Bool) → cond b 1 0 ≤ 1
bit true = omega arith
bit false = omega arith

-- four numbers up to 7 in one are found in it again
over-one : (n : ℕ → ℕ) → n 0 ≤ 7 → n 1 ≤ 7 → n 2 ≤ 7 → n 3 ≤ 7 → over_in (in_one n) ≡ (ltb 6 (n 0) || ltb 6 (n 1) || ltb 6 (n 2) || ltb 6 (n 3))
over-one n a b c d =
    let zeroth : in_one n % 256 ≡ n 0 = omega arith in
    let above : in_one n / 256 ≡ n 1 + n 2 * 256 + n 3 * 65536 = omega arith in
    let first : (n 1 + n 2 * 256 + n 3 * 65536) % 256 ≡ n 1 = omega arith in
    let top : in_one n / 65536 ≡ n 2 + n 3 * 256 = omega arith in
    let second : (n 2 + n 3 * 256) % 256 ≡ n 2 = omega arith in
    let third : in_one n / 16777216 ≡ n 3 = omega arith in
    rw (zeroth, above, first, top, second, third)

module _ {before : List Rule} {tally : Tally} {counts : List ℕ} (held : SoFar before tally counts) (rule : Rule) where
  abbrev more : List Rule
  more = before ++ (rule ∷ [])

  abbrev seen : ℕ
  seen = tally.seen

  length_more : length more ≡ tally.rules + 1
  length_more = length-append before (rule ∷ []) ∙ omega (arith, held.rules-are)

  pub rules-full : 256 ≤ tally.rules → Follows before tally rule None counts counts
  unfolding Follows may_join
  rules-full h = (rw (lt-ltb 256 (length more) (omega (arith, length_more)), and-false), refl)

  -- too many at its level, and not
  crowded-stops : crowded more rule.scope ≡ true → Follows before tally rule None counts counts
  unfolding Follows may_join
  crowded-stops e = (rw (e, or-true, and-false), refl)

  module _ (few : tally.rules < 256) (next : is_next rule.scope seen ≡ true) (within : seen_after rule.scope seen ≤ 64)
      (free : crowded more rule.scope ≡ false) where
    may-join : may_join before seen rule ≡ true
    unfolding may_join
    may-join = rw (next, le-ltb 256 (length more) (omega (arith, length_more)), le-ltb 64 (seen_after rule.scope seen) within, free)

    joins : (after : List ℕ) {seen-after firms-after : ℕ} → seen-after ≡ seen_after rule.scope seen → firms-after ≡ how_many is_firm_rule more → length after ≡ 64
        → ((root : ℕ) → root < 64 → get_or after root 0 ≡ in_one (λ unit. how_many (on_unit root unit) more))
        → Follows before tally rule (Some (record { rules = tally.rules + 1; seen = seen-after; firms = firms-after })) counts after
    unfolding Follows
    joins after s f l c = (
      may-join,
      s,
      record {
        rules-are = sym length_more;
        firms-are = f;
        roots-most = rw s within;
        long = l;
        counts-are = c;
        bounded = bounded-more held.bounded rule free;
      },
    )

  -- a firm rule
  module _ (every : rule.scope ≡ EveryFill) where
    is-firm : is_firm_rule rule ≡ true
    unfolding is_firm_rule
    is-firm = rw every

    firm-more : how_many is_firm_rule more ≡ tally.firms + 1
    firm-more = rw (how_many-more, is-firm, held.firms-are)

    firm-crowded : crowded more rule.scope ≡ ltb 10 (tally.firms + 1)
    unfolding crowded
    firm-crowded = ap (crowded more) every ∙ rw firm-more

    elsewhere : (root unit : ℕ) → how_many (on_unit root unit) more ≡ how_many (on_unit root unit) before
    unfolding on_unit
    elsewhere root unit = rw (how_many-more (on_unit root unit) before rule, is-firm) (omega arith)

    pub firm-full : 10 ≤ tally.firms → Follows before tally rule None counts counts
    firm-full h = crowded-stops (firm-crowded ∙ lt-ltb 10 (tally.firms + 1) (omega arith))

    pub firm-joins : tally.rules < 256 → tally.firms < 10
        → Follows before tally rule (Some (record { rules = tally.rules + 1; seen = seen; firms = tally.firms + 1 })) counts counts
    unfolding is_next seen_after
    firm-joins few h =
        joins few (rw every) (rw every held.roots-most) (firm-crowded ∙ le-ltb 10 (tally.firms + 1) (omega arith)) counts (rw every) (sym firm-more) held.long
        (λ root k. rw (elsewhere root 0, elsewhere root 1, elsewhere root 2, elsewhere root 3) (held.counts-are root k))

  -- a rule of a root
  module _ (n : ℕ) (scoped : is_scope n rule.scope ≡ true) (root : ℕ) (own : RootIs root rule.scope) where
    pub root-late : seen < root → Follows before tally rule None counts counts
    unfolding Follows may_join
    root-late h = (rw (next-is root seen rule.scope own, lt-leb root seen h), refl)

    pub roots-full : 64 ≤ root → Follows before tally rule None counts counts
    unfolding Follows may_join
    roots-full h = (rw (seen-is root seen rule.scope own, lt-ltb 64 (max seen (root + 1)) (omega arith), or-true, and-false), refl)

    module _ (known : root < 64) {all : ℕ} (is : all ≡ get_or counts root 0 + covered_in rule.scope root) where
      abbrev count : ℕ → ℕ
      count unit = how_many (on_unit root unit) more

      counted : (unit : ℕ) → count unit ≡ how_many (on_unit root unit) before + cond (covers rule.scope root unit) 1 0
      counted unit = on-more root before rule own root unit

      all-is : all ≡ in_one count
      all-is = is ∙ omega (arith, held.counts-are root known, counted 0, counted 1, counted 2, counted 3)

      small : (unit : ℕ) → unit < 4 → count unit ≤ 7
      small unit u = omega (arith, counted unit, held.bounded.unit-most root unit u, bit (covers rule.scope root unit))

      over-is : crowded more rule.scope ≡ over_in all
      unfolding crowded
      over-is =
          crowded-over n root more rule.scope own scoped (λ u k e. rw (counted u, e) (omega (arith, held.bounded.unit-most root u k)))
          ∙ sym (ap over_in all-is ∙ over-one count (small 0 (omega arith)) (small 1 (omega arith)) (small 2 (omega arith)) (small 3 (omega arith)))

      pub no_wrap : all < 4294967296
      no_wrap = omega (arith, all-is, small 0 (omega arith), small 1 (omega arith), small 2 (omega arith), small 3 (omega arith))

      pub few-in : FewIn all
      few-in =
          let a = small 0 (omega arith) in
          let b = small 1 (omega arith) in
          let c = small 2 (omega arith) in
          let d = small 3 (omega arith) in
          (omega (arith, all-is), omega (arith, all-is), omega (arith, all-is), omega (arith, all-is))

      pub units-full : over_in all ≡ true → Follows before tally rule None counts counts
      units-full e = crowded-stops (over-is ∙ e)

      put : (other : ℕ) → other < 64 → get_or (set counts root all) other 0 ≡ in_one (λ unit. how_many (on_unit other unit) more)
      put other h = go (eqb root other) refl
        where
          go : (t : Bool) → eqb root other ≡ t → get_or (set counts root all) other 0 ≡ in_one (λ unit. how_many (on_unit other unit) more)
          go true e = rw (← eqb-true root other e) (get_or-set_same counts root all 0 (omega (arith, held.long)) ∙ all-is)
          go false e =
              let apart = eqb-false root other e in
              let same : (unit : ℕ) → how_many (on_unit other unit) more ≡ how_many (on_unit other unit) before =
              λ unit. on-more root before rule own other unit ∙ rw (scope-off root other unit rule.scope own apart) (omega arith) in
              get_or-set_other counts root other all 0 (λ e. apart (sym e)) ∙ rw (same 0, same 1, same 2, same 3) (held.counts-are other h)

      pub root-joins : tally.rules < 256 → root ≤ seen → over_in all ≡ false → {seen-after : ℕ} → seen-after ≡ max seen (root + 1)
          → Follows before tally rule (Some (record { rules = tally.rules + 1; seen = seen-after; firms = tally.firms })) counts (set counts root all)
      root-joins few h e s =
          let after = seen-is root seen rule.scope own in
          joins few (next-is root seen rule.scope own ∙ le-leb root seen h) (rw after (omega (arith, held.roots-most))) (over-is ∙ e) _ (s ∙ sym after)
          (rw (how_many-more, not-firm root rule.scope rule.kind rule.limit own) (omega (arith, held.firms-are)))
          (length-set counts root all ∙ held.long) put

-- one thing alone can become of a rule
pub one_way : (before : List Rule) (tally : Tally) (rule : Rule) (counts : List ℕ) (x y : (Option Tally)) (a b : List ℕ)
    → Follows before tally rule x counts a → Follows before tally rule y counts b → (x ≡ y) × (a ≡ b)
unfolding Follows
one_way before tally rule counts (Some m) (Some n) a b p q =
    let u = p.2 in
    let v = q.2 in (
      λ i. Some (record {
        rules = (u.rules-are ∙ sym v.rules-are) i;
        seen = (p.1 ∙ sym q.1) i;
        firms = (u.firms-are ∙ sym v.firms-are) i;
      }),
      ext_get_or 0 a b (u.long ∙ sym v.long) (λ i h. u.counts-are i (omega (arith, u.long)) ∙ sym (v.counts-are i (omega (arith, u.long)))),
    )
one_way before tally rule counts (Some m) None a b p q = absurd (false≢true (sym q.0 ∙ p.0))
one_way before tally rule counts None (Some n) a b p q = absurd (false≢true (sym p.0 ∙ q.0))
one_way before tally rule counts None None a b p q = (refl, p.1 ∙ sym q.1)
