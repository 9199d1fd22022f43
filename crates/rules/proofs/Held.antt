-- What is held: below the most that totals may be the hold changes nothing, and since every limit lies there it changes no allowance, no trip and
-- nothing that remains. Assumes nothing.
use Prim.Native.Nat.{ℕ, ◌+◌, ◌-◌, ◌≤◌, ◌<◌, min}
use mathlib.Core.Path.{◌≡◌, refl, ap, ap₂, fun_ext}
use mathlib.Core.Bool.{Bool, true, false, cond, ◌&&◌, ◌||◌}
use lib.Dec.{leb, ltb, eqb}
use borrow.Author.Tests.{leb-true, leb-false, le-leb, lt-leb, ltb-true, ltb-false, lt-ltb, le-ltb, eqb-true, eqb-false, eq-eqb, ne_eqb}
use native.Mathlib.Omega.{arith}
use Rattle.measures.specs.Ranges.{totals}
use Rattle.rules.specs.Rules.{is_rate, held, added, ceiling, InRange}
use Rattle.rules.specs.Allowance.{largest, allowance, trips, is_passed, overruns}
use Rattle.rules.specs.declared.Kind.{Kind}
use Rattle.rules.specs.declared.Kind.TheVariants.{Rate, Absolute}
use Rattle.rules.specs.declared.Limit.{Limit}
use Rattle.rules.specs.declared.Rule.{Rule}
use Rattle.rules.proofs.Laws.{ceiling-most}

pub held_none : (kind : Kind) → held kind 0 ≡ 0
unfolding held
held_none (Rate w) = refl
held_none Absolute = refl

-- every limit lies below the most that totals may be
pub ceiling-low : (limit : Limit) → InRange limit → ceiling limit < totals.most
ceiling-low limit h = omega (arith, ceiling-most limit h)

module _ (top : ℕ) (low : top < totals.most) where
  -- what stays within such a limit is not held back
  pub held_low : (kind : Kind) (n m : ℕ) → held kind n + m ≤ top → n + m ≤ top
  unfolding held
  held_low (Rate w) n m h = h
  held_low Absolute n m h = omega arith

  -- whether it is above such a limit
  pub held-above : (n : ℕ) → ltb top (min n totals.most) ≡ ltb top n
  held-above n = go (ltb top n) refl
    where
      go : (b : Bool) → ltb top n ≡ b → ltb top (min n totals.most) ≡ b
      go true e = lt-ltb top (min n totals.most) (omega (arith, ltb-true top n e))
      go false e = le-ltb top (min n totals.most) (omega (arith, ltb-false top n e))

  -- whether it keeps such a limit, and whether it reaches it
  held_keeps : (kind : Kind) (c m : ℕ) → leb (held kind c + m) top ≡ leb (c + m) top
  unfolding held
  held_keeps (Rate w) c m = refl
  held_keeps Absolute c m = go (leb (c + m) top) refl
    where
      go : (b : Bool) → leb (c + m) top ≡ b → leb (min c totals.most + m) top ≡ b
      go true e = le-leb (min c totals.most + m) top (omega (arith, leb-true (c + m) top e))
      go false e = lt-leb (min c totals.most + m) top (omega (arith, leb-false (c + m) top e))

  held-reaches : (kind : Kind) (c m : ℕ) → eqb (held kind c + m) top ≡ eqb (c + m) top
  unfolding held
  held-reaches (Rate w) c m = refl
  held-reaches Absolute c m = go (eqb (c + m) top) refl
    where
      go : (b : Bool) → eqb (c + m) top ≡ b → eqb (min c totals.most + m) top ≡ b
      go true e = eq-eqb (min c totals.most + m) top (omega (arith, eqb-true (c + m) top e))
      go false e = ne_eqb (min c totals.most + m) top (λ same. eqb-false (c + m) top e (omega arith))

  -- whether it is passed
  held-passes : (kind : Kind) (c m : ℕ) → is_passed kind top (held kind (held kind c + m)) ≡ is_passed kind top (held kind (c + m))
  unfolding held is_passed
  held-passes (Rate w) c m = refl
  held-passes Absolute c m = go (leb top (min (c + m) totals.most)) refl
    where
      go : (b : Bool) → leb top (min (c + m) totals.most) ≡ b → leb top (min (min c totals.most + m) totals.most) ≡ b
      go true e = le-leb top _ (omega (arith, leb-true top (min (c + m) totals.most) e))
      go false e = lt-leb top _ (omega (arith, leb-false top (min (c + m) totals.most) e))

  -- what remains
  -- a total is just at a limit, held or not
  pub held-full : (n : ℕ) → eqb (min n totals.most) top ≡ eqb n top
  held-full n = go (eqb n top) refl
    where
      go : (b : Bool) → eqb n top ≡ b → eqb (min n totals.most) top ≡ b
      go true e = eq-eqb (min n totals.most) top (omega (arith, eqb-true n top e, low))
      go false e = ne_eqb (min n totals.most) top (λ h. omega (arith, h, eqb-false n top e, low))

  pub held-left : (kind : Kind) (c : ℕ) → top - held kind c ≡ top - c
  unfolding held
  held-left (Rate w) c = refl
  held-left Absolute c = omega arith

module _ (rule : Rule) (low : ceiling rule.limit < totals.most) (c premium : ℕ) where
  -- THE HOLD CHANGES NO ALLOWANCE, and no trip on an offer or on a report
  pub held-allowance : (q : ℕ) → allowance rule.limit (held rule.kind c) premium q ≡ allowance rule.limit c premium q
  unfolding allowance
  held-allowance q =
      ap (λ (test : ℕ → Bool). largest test q)
      (fun_ext (λ n. held_keeps (ceiling rule.limit) low rule.kind c (added rule.limit premium n)))

  pub held-trips : (q grant : ℕ) → trips rule (held rule.kind c) premium q grant ≡ trips rule c premium q grant
  unfolding trips
  held-trips q grant =
      ap₂ (λ (a : ℕ) (b : Bool). (ltb grant q && eqb a grant) || cond (is_rate rule.kind) false b) (held-allowance q)
      (held-reaches (ceiling rule.limit) low rule.kind c (added rule.limit premium grant))

  pub held-overruns : (n : ℕ) → overruns rule (held rule.kind c) premium n ≡ overruns rule c premium n
  unfolding overruns
  held-overruns n = held-passes (ceiling rule.limit) low rule.kind c (added rule.limit premium n)
