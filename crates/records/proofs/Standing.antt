-- Which values are an event's, kind by kind: those that the kind does not use are 0, and the others are in their ranges. Assumes nothing.
use Prim.Native.Nat.{ℕ}
use mathlib.Core.Path.{◌≡◌, refl}
use mathlib.Core.Bool.{true, false, ◌&&◌, ◌||◌}
use mathlib.Core.List.{[], ◌∷◌}
use lib.Dec.{eqb}
use borrow.Author.Tests.{eq-eqb, ne_eqb}
use Rattle.measures.specs.Ranges.{◌to◌, is_in, times, roots, units, premiums, offers, identities, reports_asked}
use Rattle.laws.proofs.Tests.{none_in}
use Rattle.laws.specs.Lists.{same}
use Rattle.records.specs.Form.{stands}
use Rattle.records.specs.Event.{values_of, event_of, is_valid, form}
use Rattle.records.specs.Event16.{values16_of, away_event_of, event16_of, is_valid16, form16, stamps}

self : (x : ℕ) → eqb x x ≡ true
self x = eq-eqb x x refl

module _ (t r u p c s l z : ℕ) where
  pub order-stands : (none_in (u ∷ p ∷ c ∷ l ∷ z ∷ []) && (is_in times t && is_in roots r && is_in (0 to 3) s))
      ≡ stands form (0 ∷ t ∷ r ∷ u ∷ p ∷ c ∷ s ∷ l ∷ z ∷ [])
  unfolding stands same values_of event_of is_valid
  order-stands = rw (self t, self r, self s)

  pub offer-stands : (none_in (s ∷ l ∷ z ∷ []) && (is_in times t && is_in roots r && is_in units u && is_in premiums p && is_in offers c))
      ≡ stands form (1 ∷ t ∷ r ∷ u ∷ p ∷ c ∷ s ∷ l ∷ z ∷ [])
  unfolding stands same values_of event_of is_valid
  offer-stands = rw (self t, self r, self u, self p, self c)

  pub lockout-stands : (none_in (u ∷ p ∷ c ∷ s ∷ z ∷ []) && (is_in times t && is_in roots r && is_in (0 to 1) l && (eqb l 0 || eqb r 0)))
      ≡ stands form (2 ∷ t ∷ r ∷ u ∷ p ∷ c ∷ s ∷ l ∷ z ∷ [])
  unfolding stands same values_of event_of is_valid
  lockout-stands = rw (self t, self r, self l)

  -- there is no other kind
  pub none-stands : (k : ℕ) → (k ≡ 0 → ⊥) → (k ≡ 1 → ⊥) → (k ≡ 2 → ⊥) → stands form (k ∷ t ∷ r ∷ u ∷ p ∷ c ∷ s ∷ l ∷ z ∷ []) ≡ false
  unfolding stands same values_of event_of
  none-stands k a b d = rw (ne_eqb k 0 a, ne_eqb k 1 b, ne_eqb k 2 d)

module _ (t r u p c s l i q z : ℕ) where
  pub order16-stands : (none_in (u ∷ p ∷ c ∷ l ∷ i ∷ q ∷ z ∷ []) && (is_in stamps t && is_in roots r && is_in (0 to 6) s))
      ≡ stands form16 (0 ∷ t ∷ r ∷ u ∷ p ∷ c ∷ s ∷ l ∷ i ∷ q ∷ z ∷ [])
  unfolding stands same values16_of event16_of is_valid16
  order16-stands = rw (self t, self r, self s)

  pub offer16-stands : (none_in (s ∷ l ∷ i ∷ q ∷ z ∷ []) && (is_in stamps t && is_in roots r && is_in units u && is_in premiums p && is_in offers c))
      ≡ stands form16 (1 ∷ t ∷ r ∷ u ∷ p ∷ c ∷ s ∷ l ∷ i ∷ q ∷ z ∷ [])
  unfolding stands same values16_of event16_of is_valid16
  offer16-stands = rw (self t, self r, self u, self p, self c)

  pub lockout16-stands : (none_in (u ∷ p ∷ c ∷ s ∷ i ∷ q ∷ z ∷ []) && (is_in stamps t && is_in roots r && is_in (0 to 1) l && (eqb l 0 || eqb r 0)))
      ≡ stands form16 (2 ∷ t ∷ r ∷ u ∷ p ∷ c ∷ s ∷ l ∷ i ∷ q ∷ z ∷ [])
  unfolding stands same values16_of event16_of is_valid16
  lockout16-stands = rw (self t, self r, self l)

  pub sending-stands : (none_in (s ∷ l ∷ z ∷ [])
      && (is_in stamps t && is_in roots r && is_in units u && is_in premiums p && is_in offers c && is_in identities i && is_in reports_asked q))
      ≡ stands form16 (3 ∷ t ∷ r ∷ u ∷ p ∷ c ∷ s ∷ l ∷ i ∷ q ∷ z ∷ [])
  unfolding stands same values16_of event16_of away_event_of is_valid16
  sending-stands = rw (self t, self r, self u, self p, self c, self i, self q)

  pub report-stands : (none_in (r ∷ u ∷ p ∷ s ∷ l ∷ q ∷ z ∷ []) && (is_in stamps t && is_in identities i && is_in offers c))
      ≡ stands form16 (4 ∷ t ∷ r ∷ u ∷ p ∷ c ∷ s ∷ l ∷ i ∷ q ∷ z ∷ [])
  unfolding stands same values16_of event16_of away_event_of is_valid16
  report-stands = rw (self t, self c, self i)

  pub closing-stands : (none_in (r ∷ u ∷ p ∷ c ∷ s ∷ l ∷ q ∷ z ∷ []) && (is_in stamps t && is_in identities i))
      ≡ stands form16 (5 ∷ t ∷ r ∷ u ∷ p ∷ c ∷ s ∷ l ∷ i ∷ q ∷ z ∷ [])
  unfolding stands same values16_of event16_of away_event_of is_valid16
  closing-stands = rw (self t, self i)

  pub none16-stands : (k : ℕ) → (k ≡ 0 → ⊥) → (k ≡ 1 → ⊥) → (k ≡ 2 → ⊥) → (k ≡ 3 → ⊥) → (k ≡ 4 → ⊥) → (k ≡ 5 → ⊥)
      → stands form16 (k ∷ t ∷ r ∷ u ∷ p ∷ c ∷ s ∷ l ∷ i ∷ q ∷ z ∷ []) ≡ false
  unfolding stands same values16_of event16_of away_event_of
  none16-stands k a b d e f g = rw (ne_eqb k 0 a, ne_eqb k 1 b, ne_eqb k 2 d, ne_eqb k 3 e, ne_eqb k 4 f, ne_eqb k 5 g)
