-- Orders sent away, their reports and their closing, on lent memory: what refuses them, test by test. Assumes nothing.
use Prim.Native.Nat.{ℕ, ◌≤◌, ◌<◌}
use native.Mathlib.Omega.{arith}
use mathlib.Core.Path.{◌≡◌, sym, ap, ◌∙◌}
use mathlib.Core.Bool.{Bool, true, false, not, cond, ◌&&◌, ◌||◌}
use mathlib.Core.List.{List}
use lib.ListN.{length}
use lib.Dec.{leb, ltb, eqb}
use borrow.Author.Tests.{lt-ltb, le-ltb, ltb-true, le-leb, lt-leb, not-false}
use Rattle.laws.proofs.Tests.{and_l, and_r}
use Rattle.measures.proofs.Determined.{test_in}
use Rattle.machine.specs.Entries.{are_ordered}
use Rattle.measures.specs.Ranges.{is_in, units, premiums, offers, identities, reports_asked}
use Rattle.machine.specs.State.{roots_in}
use Rattle.machine.specs.Calls.{send, report, close}
use Rattle.machine.specs.Judge.{log_places}
use Rattle.machine.specs.Refusals.{first_of, is_root, no_places, overdrawn, refusal_of}
use Rattle.machine.specs.Register.{register_places, is_open, sent_at}
use Rattle.machine.specs.declared.Offer.{Offer}
use Rattle.machine.specs.declared.Sent.{Sent}
use Rattle.register.specs.Register.{register_in, place_of_identity, sent_at_place}
use Rattle.register.proofs.Finding.{place-open, place-sent}
use Rattle.state.specs.State.{decode}
use Rattle.state.specs.Inner.Laid.{Laid}
use Rattle.state.specs.Inner.Tests.{register_part}
use Rattle.state.proofs.Laid.{laid-sent}
use Rattle.calls.specs.Calls.{timed_refusal, refusal_in}
use Rattle.calls.proofs.Steps.{laid}
use Rattle.calls.proofs.Timed.{timed-ready, timed-refused, timed-met}
use Rattle.calls.proofs.Offers.{timed-order}

-- the place that was found for an identity, and how many orders there are
module _ (xs : List ℕ) (h : Laid xs) (identity : ℕ) {i k : ℕ} (at : i ≡ place_of_identity (register_in (register_part xs)) identity)
    (many : k ≡ length (decode xs).part.register) where
  pub found_at : i ≡ place_of_identity (decode xs).part.register identity
  found_at = at ∙ ap (λ (l : List Sent). place_of_identity l identity) (laid-sent h)

  pub found-open : ltb i k ≡ is_open (decode xs).part.register identity
  found-open = rw (found_at, many) (sym (place-open identity (decode xs).part.register))

  pub found-sent : sent_at_place (decode xs).part.register i ≡ sent_at (decode xs).part.register identity
  found-sent = rw found_at (place-sent identity (decode xs).part.register)

  pub found_none : k ≤ i → not (is_open (decode xs).part.register identity) ≡ true
  found_none l = ap not (sym found-open ∙ le-ltb i k l)

  pub found-one : i < k → not (is_open (decode xs).part.register identity) ≡ false
  found-one l = ap not (sym found-open ∙ lt-ltb i k l)

-- a sending, test by test
module _ (xs : List ℕ) (o : Offer) (identity reports : ℕ) where
  pub send-timed : (n : ℕ) → n ≡ timed_refusal xs o.time → (n ≡ 0 → ⊥) → n ≡ refusal_in xs (send o identity reports)
  unfolding refusal_in refusal_of first_of
  send-timed n e h = timed-refused xs o.time _ n e h

  pub send-known : (roots : ℕ) → roots ≡ roots_in (decode xs) → (u w b : Bool) → u ≡ is_in units o.unit → w ≡ is_in identities identity
      → not ((ltb o.root roots && u) && w) ≡ b → not (is_root (decode xs).part o.root && is_in units o.unit && is_in identities identity) ≡ b
  unfolding is_root roots_in
  send-known roots r u w b p q e = rw (← r, ← p, ← q) e

  pub send-priced : (p a b : Bool) → p ≡ (is_in premiums o.premium && is_in offers o.contracts) → a ≡ is_in reports_asked reports
      → not (p && a) ≡ b → not (is_in premiums o.premium && is_in offers o.contracts && is_in reports_asked reports) ≡ b
  send-priced p a b q r e = rw (← q, ← r) e

  pub send-is : timed_refusal xs o.time ≡ 0 → (k p f w q : Bool)
      → not (is_root (decode xs).part o.root && is_in units o.unit && is_in identities identity) ≡ k
      → not (is_in premiums o.premium && is_in offers o.contracts && is_in reports_asked reports) ≡ p
      → leb register_places (length (decode xs).part.register) ≡ f → is_open (decode xs).part.register identity ≡ w
      → no_places log_places (decode xs) o reports ≡ q → cond k 13 (cond p 14 (cond f 17 (cond w 18 (cond q 15 0)))) ≡ refusal_in xs (send o identity reports)
  unfolding refusal_in refusal_of first_of
  send-is e k p f w q a b c d g = rw (← a, ← b, ← c, ← d, ← g) (timed-met xs o.time _ e)

  pub send-full : {k : ℕ} → k ≡ length (decode xs).part.register → 64 ≤ k → leb register_places (length (decode xs).part.register) ≡ true
  send-full many l = le-leb 64 (length (decode xs).part.register) (omega (arith, many, l))

  pub send-free : {k : ℕ} → k ≡ length (decode xs).part.register → k < 64 → leb register_places (length (decode xs).part.register) ≡ false
  send-free many l = lt-leb 64 (length (decode xs).part.register) (omega (arith, many, l))

  -- what the places of the log are asked for
  pub send-met : timed_refusal xs o.time ≡ 0
      → not (is_root (decode xs).part o.root && is_in units o.unit && is_in identities identity) ≡ false
      → not (is_in premiums o.premium && is_in offers o.contracts && is_in reports_asked reports) ≡ false
      → Laid xs × (are_ordered 0 o.time (decode xs).log ≡ true) × (o.root < 64) × (reports ≤ 512)
  unfolding is_root roots_in
  send-met e known priced =
      let h = laid xs (timed-ready xs o.time e) in
      let k = not-false (is_root (decode xs).part o.root && is_in units o.unit && is_in identities identity) known in
      let root = ltb-true o.root (length (decode xs).part.profile.roots) (and_l _ (is_in units o.unit) (and_l _ (is_in identities identity) k)) in
      let p = not-false (is_in premiums o.premium && is_in offers o.contracts && is_in reports_asked reports) priced in
      let few = test_in reports_asked reports (and_r (is_in premiums o.premium && is_in offers o.contracts) (is_in reports_asked reports) p) in
      (h, timed-order xs o.time e, omega (arith, root, h.fits.roots), omega (arith, few.1))

-- a report, test by test
pub report-drawn : (xs : List ℕ) (identity n : ℕ) (sent : Sent) → sent ≡ sent_at (decode xs).part.register identity → (b : Bool)
    → (ltb sent.contracts.0 n || eqb sent.reports 0) ≡ b → overdrawn (decode xs).part.register identity n ≡ b
unfolding overdrawn
report-drawn xs identity n sent is b e = sym (ap (λ (s : Sent). ltb s.contracts.0 n || eqb s.reports 0) is) ∙ e

module _ (xs : List ℕ) (time identity n : ℕ) where
  pub report-timed : (r : ℕ) → r ≡ timed_refusal xs time → (r ≡ 0 → ⊥) → r ≡ refusal_in xs (report time identity n)
  unfolding refusal_in refusal_of first_of
  report-timed r e h = timed-refused xs time _ r e h

  pub report-is : timed_refusal xs time ≡ 0 → (k c w d : Bool) → not (is_in identities identity) ≡ k → not (is_in offers n) ≡ c
      → not (is_open (decode xs).part.register identity) ≡ w → overdrawn (decode xs).part.register identity n ≡ d
      → cond k 13 (cond c 14 (cond w 18 (cond d 19 0))) ≡ refusal_in xs (report time identity n)
  unfolding refusal_in refusal_of first_of
  report-is e k c w d p q r s = rw (← p, ← q, ← r, ← s) (timed-met xs time _ e)

-- a closing, test by test
module _ (xs : List ℕ) (time identity : ℕ) where
  pub close-timed : (n : ℕ) → n ≡ timed_refusal xs time → (n ≡ 0 → ⊥) → n ≡ refusal_in xs (close time identity)
  unfolding refusal_in refusal_of first_of
  close-timed n e h = timed-refused xs time _ n e h

  pub close-is : timed_refusal xs time ≡ 0 → (k w : Bool) → not (is_in identities identity) ≡ k → not (is_open (decode xs).part.register identity) ≡ w
      → cond k 13 (cond w 18 0) ≡ refusal_in xs (close time identity)
  unfolding refusal_in refusal_of first_of
  close-is e k w p q = rw (← p, ← q) (timed-met xs time _ e)
