-- What a report trips: the levels that allow less than is reported, and those with an absolute rule that it fills. Assumes nothing.
use Prim.Native.Nat.{ℕ, zero, suc, ◌+◌, ◌≤◌, ◌<◌, min}
use native.Mathlib.Omega.{arith}
use mathlib.Core.Path.{◌≡◌, refl, sym, ap, ap₂, ◌∙◌}
use mathlib.Core.Bool.{Bool, true, false, cond, not, ◌&&◌, ◌||◌}
use mathlib.Core.List.{List, [], ◌∷◌}
use lib.ListN.{length, get_or}
use lib.Dec.{eqb, leb, ltb}
use borrow.Author.Tests.{ltb-true, ltb-false, leb-true, leb-false, eqb-true, eqb-false, lt-ltb, le-ltb, le-leb, lt-leb}
use Rattle.laws.specs.Folds.{sum_of, any_of}
use Rattle.measures.specs.Ranges.{totals}
use Rattle.rules.specs.Amounts.{number_of}
use Rattle.rules.specs.Rules.{is_rate, counted_of, held, added, ceiling}
use Rattle.rules.specs.Allowance.{largest, allowance, is_passed, overruns}
use Rattle.rules.specs.declared.Kind.{Kind}
use Rattle.rules.specs.declared.Kind.TheVariants.{Rate, Absolute}
use Rattle.rules.specs.declared.Level.{Level}
use Rattle.rules.specs.declared.Account.{Account}
use Rattle.rules.proofs.Laws.{largest-is}
use Rattle.machine.specs.declared.Entry.{Entry}
use Rattle.machine.specs.declared.Offer.{Offer}
use Rattle.machine.specs.Entries.{entry_share}
use Rattle.machine.specs.Offers.{counted, level_trips, trips_by}
use Rattle.machine.specs.Remaining.{no_account}
use Rattle.machine.specs.Deeds.{reported}
use Rattle.grant.specs.Inner.Grant.{concerns, allowed_by, lowered, least_at, fills_by, reached_at}

-- the largest number that passes a test is below the last one just if that does not
largest-below : (test : ℕ → Bool) (n : ℕ) → 0 < n → ltb (largest test n) n ≡ not (test n)
unfolding largest
largest-below test zero h = absurd (omega arith)
largest-below test (suc q) h = go (test (suc q))
  where
    go : (b : Bool) → ltb (cond b (suc q) (largest test q)) (suc q) ≡ not b
    go true = le-ltb (suc q) (suc q) (omega arith)
    go false = lt-ltb (largest test q) (suc q) (omega (arith, (largest-is test q).within))

-- a limit is passed just if what is counted then is above it, or is at it and the rule absolute
over_by : (kind : Kind) (total logged more most : ℕ) → most < totals.most
    → is_passed kind most (held kind (counted_of kind total logged + more))
    ≡ (cond (is_rate kind) false (eqb (total + more) most) || not (leb (counted_of kind total logged + more) most))
unfolding is_passed held counted_of is_rate
over_by (Rate w) total logged more most low = go (leb (logged + more) most) refl
  where
    go : (b : Bool) → leb (logged + more) most ≡ b → ltb most (logged + more) ≡ not b
    go true e = le-ltb most (logged + more) (leb-true (logged + more) most e)
    go false e = lt-ltb most (logged + more) (leb-false (logged + more) most e)
over_by Absolute total logged more most low = go (eqb (total + more) most) refl (leb (total + more) most) refl
  where
    go : (p : Bool) → eqb (total + more) most ≡ p → (b : Bool) → leb (total + more) most ≡ b → leb most (min (total + more) totals.most) ≡ (p || not b)
    go true e b f = le-leb most (min (total + more) totals.most) (omega (arith, eqb-true (total + more) most e))
    go false e true f = lt-leb most (min (total + more) totals.most) (omega (arith, eqb-false (total + more) most e, leb-true (total + more) most f))
    go false e false f = le-leb most (min (total + more) totals.most) (omega (arith, leb-false (total + more) most f))

module _ (log : List Entry) (o : Offer) (some : 0 < o.contracts) where
  -- a rule trips if it allows less than is reported, or because it is filled
  overruns-so : (a : Account) → ceiling a.rule.limit < totals.most
      → overruns a.rule (counted log o.time a) o.premium o.contracts ≡ (fills_by o o.contracts a || ltb (allowed_by log o a) o.contracts)
  unfolding overruns counted fills_by allowed_by allowance
  overruns-so a low =
      let kept : ℕ → Bool = λ n. leb (counted log o.time a + added a.rule.limit o.premium n) (ceiling a.rule.limit) in
      over_by a.rule.kind (number_of a.total) (sum_of (entry_share a.rule o.time) log) (added a.rule.limit o.premium o.contracts) (ceiling a.rule.limit) low
      ∙ ap (λ (b : Bool). fills_by o o.contracts a || b) (sym (largest-below kept o.contracts some))

  least-below : (m n : ℕ) → ltb (min m n) o.contracts ≡ (ltb m o.contracts || ltb n o.contracts)
  least-below m n = go (ltb m o.contracts) refl (ltb n o.contracts) refl
    where
      go : (a : Bool) → ltb m o.contracts ≡ a → (b : Bool) → ltb n o.contracts ≡ b → ltb (min m n) o.contracts ≡ (a || b)
      go true p b q = lt-ltb (min m n) o.contracts (omega (arith, ltb-true m o.contracts p))
      go false p true q = lt-ltb (min m n) o.contracts (omega (arith, ltb-true n o.contracts q))
      go false p false q = le-ltb (min m n) o.contracts (omega (arith, ltb-false m o.contracts p, ltb-false n o.contracts q))

  shuffle : (q s p t : Bool) → ((q || p) || (s || t)) ≡ ((q || s) || (p || t))
  shuffle true s p t = refl
  shuffle false true true t = refl
  shuffle false true false t = refl
  shuffle false false p t = refl

  module _ (level : Level) where
    joined : (b q s : Bool) (m n : ℕ)
        → ((b && (q || ltb m o.contracts)) || (s || ltb n o.contracts)) ≡ (((b && q) || s) || ltb (cond b (min m n) n) o.contracts)
    joined true q s m n = shuffle q s (ltb m o.contracts) (ltb n o.contracts) ∙ ap (λ (t : Bool). (q || s) || t) (sym (least-below m n))
    joined false q s m n = refl

    -- A LEVEL has a rule that trips just if one of its absolute rules is filled, or it allows less than is reported
    level-over : (accounts : List Account) → ((i : ℕ) → i < length accounts → ceiling (get_or accounts i no_account).rule.limit < totals.most)
        → any_of (λ a. concerns o level a && overruns a.rule (counted log o.time a) o.premium o.contracts) accounts
        ≡ (reached_at o o.contracts accounts level || ltb (least_at log o accounts level) o.contracts)
    unfolding any_of reached_at least_at lowered
    level-over [] low = sym (le-ltb o.contracts o.contracts (omega arith))
    level-over (a ∷ rest) low =
        ap₂ (λ (x y : Bool). (concerns o level a && x) || y) (overruns-so a (low 0 (omega arith))) (level-over rest (λ i l. low (suc i) (omega (arith, l))))
        ∙ joined (concerns o level a) (fills_by o o.contracts a) (any_of (λ a. concerns o level a && fills_by o o.contracts a) rest) (allowed_by log o a) (least_at log o rest level)

    pub report-trips : (accounts : List Account) → ((i : ℕ) → i < length accounts → ceiling (get_or accounts i no_account).rule.limit < totals.most)
        → {reached : Bool} {cut : ℕ} → reached ≡ reached_at o o.contracts accounts level → cut ≡ least_at log o accounts level
        → (identity : ℕ) → (reached || ltb cut o.contracts) ≡ level_trips (reported identity) log o o.contracts accounts level
    unfolding level_trips trips_by concerns
    report-trips accounts low filled least identity =
        ap₂ (λ (b : Bool) (n : ℕ). b || ltb n o.contracts) filled least ∙ sym (level-over accounts low)
