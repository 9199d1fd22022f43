-- The grant is the lesser of the two cuts, and a level trips if its cut is a grant below the offer or one of its absolute rules is filled.
-- Assumes nothing.
use Prim.Native.Nat.{ℕ, ◌+◌, ◌≤◌, min}
use native.Mathlib.Omega.{arith}
use mathlib.Core.Path.{◌≡◌, refl, sym, ap, ap₂, ◌∙◌}
use mathlib.Core.Bool.{Bool, true, false, cond, not, ◌&&◌, ◌||◌, false≢true, and-or_distrib_left}
use mathlib.Core.List.{List, [], ◌∷◌}
use lib.Dec.{eqb, ltb}
use borrow.Author.Tests.{ltb-true, eqb-true, eqb-false, eq-eqb, ne_eqb}
use Rattle.rules.specs.Amounts.{number_of}
use Rattle.rules.specs.Rules.{level_of, covers, is_rate, counted_of, added, ceiling}
use Rattle.rules.specs.Allowance.{trips}
use Rattle.rules.specs.declared.Level.{Level}
use Rattle.rules.specs.declared.Level.TheVariants.{Firm, Root}
use Rattle.rules.specs.declared.Kind.{Kind}
use Rattle.rules.specs.declared.Kind.TheVariants.{Rate, Absolute}
use Rattle.rules.specs.declared.Account.{Account}
use Rattle.machine.specs.declared.Entry.{Entry}
use Rattle.machine.specs.Entries.{entry_share}
use Rattle.laws.specs.Folds.{sum_of, any_of}
use Rattle.machine.specs.Offers.{counted, covers_offer, same_level, grant_of, level_trips, trips_by}
use Rattle.machine.specs.declared.Offer.{Offer}
use Rattle.grant.specs.Inner.Grant.{concerns, allowed_by, lowered, least_at, fills_by, reached_at}
use Rattle.grant.proofs.Cut.{level-of, lowered-le}
use Rattle.machine.specs.Deeds.{granted}

module _ (log : List Entry) (o : Offer) where
  -- one rule: what it leaves of the grant is what it leaves of the lesser cut
  first-cut : (a : Account) (root firm : ℕ)
      → cond (covers_offer o a.rule) (min (allowed_by log o a) (min root firm)) (min root firm)
      ≡ min (lowered log o (Root o.root) a root) (lowered log o Firm a firm)
  unfolding lowered concerns covers_offer
  first-cut a root firm =
      let scope = a.rule.scope in
      go (covers scope o.root o.unit) (same_level (level_of scope) Firm) (same_level (level_of scope) (Root o.root))
      (level-of scope o.root o.unit) (allowed_by log o a)
    where
      go : (inside f r : Bool) → (inside ≡ true → r ≡ not f) → (n : ℕ)
          → cond inside (min n (min root firm)) (min root firm) ≡ min (cond (r && inside) (min n root) root) (cond (f && inside) (min n firm) firm)
      go true true true h n = absurd (false≢true (sym (h refl)))
      go true true false h n = omega arith
      go true false true h n = omega arith
      go true false false h n = absurd (false≢true (h refl))
      go false true true h n = refl
      go false true false h n = refl
      go false false true h n = refl
      go false false false h n = refl

  -- THE GRANT is the lesser of the two cuts
  pub grant-cuts : (accounts : List Account)
      → grant_of log o accounts ≡ min (least_at log o accounts (Root o.root)) (least_at log o accounts Firm)
  unfolding grant_of least_at allowed_by
  grant-cuts [] = omega arith
  grant-cuts (a ∷ rest) =
      ap (λ (n : ℕ). cond (covers_offer o a.rule) (min (allowed_by log o a) n) n) (grant-cuts rest)
      ∙ first-cut a (least_at log o rest (Root o.root)) (least_at log o rest Firm)

module _ (log : List Entry) (o : Offer) (grant : ℕ) where
  -- a rule trips by the cut: the grant is below the offer, and the rule allows no more than the grant
  abbrev pub cut_by : Account → Bool
  cut_by a = ltb grant o.contracts && eqb (allowed_by log o a) grant

  filled-so : (kind : Kind) (total logged more most : ℕ)
      → cond (is_rate kind) false (eqb (counted_of kind total logged + more) most) ≡ cond (is_rate kind) false (eqb (total + more) most)
  unfolding is_rate counted_of
  filled-so (Rate w) total logged more most = refl
  filled-so Absolute total logged more most = refl

  -- a rule trips by the cut, or because it is filled
  trips-so : (a : Account) → trips a.rule (counted log o.time a) o.premium o.contracts grant ≡ (cut_by a || fills_by o grant a)
  unfolding trips counted fills_by allowed_by
  trips-so a =
      ap (λ (b : Bool). (ltb grant o.contracts && eqb (allowed_by log o a) grant) || b)
      (filled-so a.rule.kind (number_of a.total) (sum_of (entry_share a.rule o.time) log) (added a.rule.limit o.premium grant) (ceiling a.rule.limit))

  least-test : (m n : ℕ) → grant ≤ m → grant ≤ n → eqb (min m n) grant ≡ (eqb m grant || eqb n grant)
  least-test m n h k = go (eqb m grant) refl (eqb n grant) refl
    where
      go : (a : Bool) → eqb m grant ≡ a → (b : Bool) → eqb n grant ≡ b → eqb (min m n) grant ≡ (a || b)
      go true p b q = eq-eqb (min m n) grant (omega (arith, eqb-true m grant p))
      go false p true q = eq-eqb (min m n) grant (omega (arith, eqb-true n grant q))
      go false p false q = ne_eqb (min m n) grant (λ e. omega (arith, eqb-false m grant p, eqb-false n grant q))

  -- A LEVEL has a rule that trips by the cut exactly if the grant is below the offer and is what the level allows
  pub level-cut : (accounts : List Account) (level : Level) → grant ≤ least_at log o accounts level
      → any_of (λ a. concerns o level a && cut_by a) accounts ≡ (ltb grant o.contracts && eqb (least_at log o accounts level) grant)
  unfolding any_of least_at lowered
  level-cut [] level h = none (ltb grant o.contracts) refl
    where
      none : (b : Bool) → ltb grant o.contracts ≡ b → false ≡ (b && eqb o.contracts grant)
      none true e = sym (ne_eqb o.contracts grant (λ p. omega (arith, ltb-true grant o.contracts e)))
      none false e = refl
  level-cut (a ∷ rest) level h =
      let n = least_at log o rest level in
      go n (concerns o level a) (level-cut rest level (omega (arith, lowered-le log o a n level))) (omega (arith, lowered-le log o a n level)) h
    where
      go : (n : ℕ) (b : Bool) {r : Bool} → r ≡ (ltb grant o.contracts && eqb n grant) → grant ≤ n → grant ≤ cond b (min (allowed_by log o a) n) n
          → ((b && cut_by a) || r) ≡ (ltb grant o.contracts && eqb (cond b (min (allowed_by log o a) n) n) grant)
      go n true e k h =
          ap (λ (r : Bool). cut_by a || r) e
          ∙ sym (ap (λ (r : Bool). ltb grant o.contracts && r) (least-test (allowed_by log o a) n (omega arith) k)
          ∙ and-or_distrib_left (ltb grant o.contracts) (eqb (allowed_by log o a) grant) (eqb n grant))
      go n false e k h = e

  shuffle : (b p q s r : Bool) → ((b && (p || q)) || (s || r)) ≡ (((b && q) || s) || ((b && p) || r))
  shuffle false p q s r = refl
  shuffle true true true s r = refl
  shuffle true true false true r = refl
  shuffle true true false false r = refl
  shuffle true false true s r = refl
  shuffle true false false s r = refl

  any-either : (b p q t : Account → Bool) → ((a : Account) → t a ≡ (p a || q a)) → (accounts : List Account)
      → any_of (λ a. b a && t a) accounts ≡ (any_of (λ a. b a && q a) accounts || any_of (λ a. b a && p a) accounts)
  unfolding any_of
  any-either b p q t e [] = refl
  any-either b p q t e (a ∷ rest) =
      ap₂ (λ (x y : Bool). (b a && x) || y) (e a) (any-either b p q t e rest)
      ∙ shuffle (b a) (p a) (q a) (any_of (λ a. b a && q a) rest) (any_of (λ a. b a && p a) rest)

  -- A LEVEL TRIPS if one of its absolute rules is filled, or if the grant is below the offer and is what the level allows
  pub level-trips : (accounts : List Account) (level : Level) → grant ≤ least_at log o accounts level
      → level_trips granted log o grant accounts level
      ≡ (reached_at o grant accounts level || (ltb grant o.contracts && eqb (least_at log o accounts level) grant))
  unfolding level_trips trips_by reached_at concerns
  level-trips accounts level h =
      any-either (concerns o level) cut_by (fills_by o grant) (λ a. trips a.rule (counted log o.time a) o.premium o.contracts grant) trips-so accounts
      ∙ ap (λ (b : Bool). reached_at o grant accounts level || b) (level-cut accounts level h)
