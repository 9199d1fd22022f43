-- The tests of the calls on an armed unit give the number that their sentences give. Assumes nothing.
use Prim.Native.Nat.{ℕ, zero, suc, ◌+◌, ◌≤◌, ◌<◌}
use native.Mathlib.Omega.{arith}
use mathlib.Core.Path.{◌≡◌, refl, sym, ap, ◌∙◌}
use mathlib.Core.Logic.{◌↔◌, ◌⊎◌, inl, inr, ⊎_elim}
use mathlib.Core.Bool.{Bool, true, false, not, cond, ◌&&◌, false≢true}
use mathlib.Core.List.{List, [], ◌∷◌, Memᴰ}
use lib.ListN.{length}
use lib.Dec.{leb, ltb, eqb}
use borrow.Author.Tests.{lt-leb}
use Rattle.measures.specs.Ranges.{Range, In, is_in, times, units, premiums, offers, identities, reports_asked}
use Rattle.rules.specs.Valid.{has_rate}
use Rattle.rules.specs.declared.Level.TheVariants.{Firm, Root}
use Rattle.machine.specs.declared.Offer.{Offer}
use Rattle.rules.specs.Units.{units_of, is_unit_of}
use Rattle.rules.proofs.Units.{unit-known}
use Rattle.machine.specs.State.{State, rules_in, roots_in}
use Rattle.machine.specs.Remaining.{rule_numbered, is_cell}
use Rattle.machine.specs.Calls.{Call, order, lockout, offer, remaining, status, send, report, close}
use Rattle.machine.specs.Locks.{is_locked, verdict_of}
use Rattle.machine.specs.Offers.{grant_of}
use Rattle.machine.specs.Effects.{last_reset}
use Rattle.machine.specs.Refusals.{first_of, bad_time, is_root, used, log_full, no_places, overdrawn, refusal_of}
use Rattle.machine.specs.Register.{register_places, is_open, sent_at}
use Rattle.promises.specs.Refusals.{BadTime, NoPlaces, Overdrawn, refusals_of}
use Rattle.promises.proofs.Gives.{Leads, ends, tested}
use Rattle.promises.proofs.Tests.{Tells, not-tells, and-tells, or-tells, three-tells, either-tells, tells_as, leb_tells, ltb-tells, eqb_tells, above-tells, least-tells}

range-tells : (r : Range) (n : ℕ) → Tells (is_in r n) (In r n)
range-tells r n = and-tells (leb r.least n) (leb n r.most) (leb_tells r.least n) (leb_tells n r.most)

-- above a range that begins at 0
over-tells : (most n : ℕ) → Tells (not (leb 0 n && leb n most)) (most < n)
over-tells most n = tells_as (or-tells (leb 0 n) (leb n most) (above-tells 0 n) (above-tells n most)) (⊎_elim (λ h. absurd (omega (arith, h))) (λ h. h), λ h. inr h)

pub time-tells : (s : State) (time : ℕ) → Tells (bad_time s.part time) (BadTime s time)
unfolding bad_time
time-tells s time = or-tells (is_in times time) (leb s.part.clock time) (over-tells times.most time) (above-tells s.part.clock time)

positive : (n : ℕ) → (n ≡ 0 → ⊥) → 0 < n
positive zero h = absurd (h refl)
positive (suc n) h = omega arith

-- level 0 and a root, level 1 and root 0, or no level
level-tells : (roots level root : ℕ)
    → Tells (not (leb level 1 && cond (eqb level 0) (ltb root roots) (eqb root 0))) ((1 < level) ⊎ ((level ≡ 0) × (roots ≤ root)) ⊎ ((level ≡ 1) × (0 < root)))
level-tells roots zero root =
    tells_as (least-tells root roots)
    (λ h. inr (inl (refl, h)), ⊎_elim (λ h. absurd (omega (arith, h))) (⊎_elim (λ h. h.1) (λ h. absurd (omega (arith, h.0)))))
level-tells roots (suc zero) root =
    tells_as (not-tells (eqb root 0) (eqb_tells root 0))
    (λ h. inr (inr (refl, positive root h)), ⊎_elim (λ h z. omega (arith, h)) (⊎_elim (λ h z. omega (arith, h.0)) (λ h z. omega (arith, h.1))))
level-tells roots (suc (suc n)) root = (
  λ e. inl (omega arith),
  λ h. ap (λ (b : Bool). not (b && cond (eqb (suc (suc n)) 0) (ltb root roots) (eqb root 0))) (lt-leb (suc (suc n)) 1 (omega arith)),
)

-- a test that is the sentence itself
same-tells : (b : Bool) → Tells b (b ≡ true)
same-tells b = (λ e. e, λ e. e)

-- verdict 0: neither the firm nor the root is locked
free-tells : (firm root : Bool) → Tells (eqb (cond firm 1 (cond root 2 0)) 0) ((firm ≡ false) × (root ≡ false))
free-tells true root = (λ e. absurd (false≢true e), λ h. absurd (false≢true (sym h.0)))
free-tells false true = (λ e. absurd (false≢true e), λ h. absurd (false≢true (sym h.1)))
free-tells false false = (λ e. (refl, refl), λ h. refl)

-- one place more than the use, or so many
one_place : (places n : ℕ) → (places ≤ n) ↔ (places < n + 1)
one_place places n = (λ h. omega (arith, h), λ h. omega (arith, h))

offer-tells : (places : ℕ) (s : State) (o : Offer) → Tells (log_full places s o) ((0 < grant_of s.log o s.part.accounts) × NoPlaces places s o 1)
unfolding log_full verdict_of
offer-tells places s o =
    let free = eqb (verdict_of s.part.locks o.root) 0 in
    let granted = ltb 0 (grant_of s.log o s.part.accounts) in
    let rated = has_rate (rules_in s) in
    let firm = is_locked s.part.locks Firm in
    let root = is_locked s.part.locks (Root o.root) in
    tells_as
    (and-tells (free && granted && rated) (leb places (used s o.time))
    (and-tells (free && granted) rated (and-tells free granted (free-tells firm root) (ltb-tells 0 (grant_of s.log o s.part.accounts))) (same-tells rated))
    (tells_as (leb_tells places (used s o.time)) (one_place places (used s o.time)))) (
      λ h. (h.0.0.1, record { firm_free = h.0.0.0.0; root_free = h.0.0.0.1; rated = h.0.1; full = h.1 }),
      λ h. (((((h.1.firm_free, h.1.root_free), h.0), h.1.rated), h.1.full)),
    )

send-tells : (places : ℕ) (s : State) (o : Offer) (reports : ℕ) → Tells (no_places places s o reports) (NoPlaces places s o reports)
unfolding no_places verdict_of
send-tells places s o reports =
    let free = eqb (verdict_of s.part.locks o.root) 0 in
    let rated = has_rate (rules_in s) in
    let firm = is_locked s.part.locks Firm in
    let root = is_locked s.part.locks (Root o.root) in
    tells_as
    (and-tells (free && rated) (ltb places (used s o.time + reports)) (and-tells free rated (free-tells firm root) (same-tells rated))
    (ltb-tells places (used s o.time + reports))) (
      λ h. record { firm_free = h.0.0.0; root_free = h.0.0.1; rated = h.0.1; full = h.1 },
      λ h. (((h.firm_free, h.root_free), h.rated), h.full),
    )

lockout-tells : (s : State) (level root : ℕ)
    → Tells (not (leb level 1 && cond (eqb level 0) (is_root s.part root) (eqb root 0))) ((1 < level) ⊎ ((level ≡ 0) × (roots_in s ≤ root)) ⊎ ((level ≡ 1) × (0 < root)))
unfolding is_root roots_in
lockout-tells s level root = level-tells (length s.part.profile.roots) level root

-- 13: a root that the profile does not have
root-tells : (s : State) (root : ℕ) → Tells (not (is_root s.part root)) (roots_in s ≤ root)
unfolding is_root roots_in
root-tells s root = least-tells root (length s.part.profile.roots)

-- 14: a number that is not in its range
out-tells : (r : Range) (n : ℕ) → Tells (not (is_in r n)) (In r n → ⊥)
out-tells r n = not-tells (is_in r n) (range-tells r n)

-- 18: the identity is not open
closed-tells : (s : State) (identity : ℕ) → Tells (not (is_open s.part.register identity)) (is_open s.part.register identity ≡ true → ⊥)
closed-tells s identity = not-tells (is_open s.part.register identity) (same-tells (is_open s.part.register identity))

drawn-tells : (s : State) (identity n : ℕ) → Tells (overdrawn s.part.register identity n) (Overdrawn s identity n)
unfolding overdrawn
drawn-tells s identity n =
    let sent = sent_at s.part.register identity in
    either-tells (ltb sent.contracts.0 n) (eqb sent.reports 0) (ltb-tells sent.contracts.0 n) (eqb_tells sent.reports 0)

asked-tells : (s : State) (rule unit : ℕ)
    → Tells (not (is_cell (rules_in s) rule unit)) ((length (rules_in s) ≤ rule) ⊎ (Memᴰ unit (units_of (rule_numbered (rules_in s) rule).scope) → ⊥))
unfolding is_cell
asked-tells s rule unit =
    let scope = (rule_numbered (rules_in s) rule).scope in
    or-tells (ltb rule (length (rules_in s))) (is_unit_of scope unit) (least-tells rule (length (rules_in s))) (not-tells (is_unit_of scope unit) (unit-known scope unit))

-- ---- each call

module _ (places r : ℕ) (after : ℕ → Type 0) (s : State) where
  pub call-leads : (call : Call) → Leads r after (refusal_of places s call) (refusals_of places s call after)
  unfolding refusal_of first_of refusals_of
  call-leads (order time root reset) =
      tested r after (bad_time s.part time) 11 _ (time-tells s time)
      (tested r after (not (is_root s.part root && leb reset last_reset)) 12 0
      (or-tells (is_root s.part root) (leb reset last_reset) (root-tells s root) (above-tells reset last_reset)) (ends r after))
  call-leads (lockout time level root) =
      tested r after (bad_time s.part time) 11 _ (time-tells s time)
      (tested r after (not (leb level 1 && cond (eqb level 0) (is_root s.part root) (eqb root 0))) 12 0 (lockout-tells s level root) (ends r after))
  call-leads (offer o) =
      tested r after (bad_time s.part o.time) 11 _ (time-tells s o.time)
      (tested r after (not (is_root s.part o.root && is_in units o.unit)) 12 _
      (or-tells (is_root s.part o.root) (is_in units o.unit) (root-tells s o.root) (over-tells units.most o.unit))
      (tested r after (not (is_in premiums o.premium && is_in offers o.contracts)) 13 _
      (or-tells (is_in premiums o.premium) (is_in offers o.contracts) (out-tells premiums o.premium) (out-tells offers o.contracts))
      (tested r after (log_full places s o) 14 0 (offer-tells places s o) (ends r after))))
  call-leads (remaining time rule unit) =
      tested r after (bad_time s.part time) 11 _ (time-tells s time)
      (tested r after (not (is_cell (rules_in s) rule unit)) 12 0 (asked-tells s rule unit) (ends r after))
  call-leads status = ends r after
  call-leads (send o identity reports) =
      tested r after (bad_time s.part o.time) 11 _ (time-tells s o.time)
      (tested r after (not (is_root s.part o.root && is_in units o.unit && is_in identities identity)) 12 _
      (three-tells (is_root s.part o.root) (is_in units o.unit) (is_in identities identity)
      (root-tells s o.root) (over-tells units.most o.unit) (over-tells identities.most identity))
      (tested r after (not (is_in premiums o.premium && is_in offers o.contracts && is_in reports_asked reports)) 13 _
      (three-tells (is_in premiums o.premium) (is_in offers o.contracts) (is_in reports_asked reports)
      (out-tells premiums o.premium) (out-tells offers o.contracts) (out-tells reports_asked reports))
      (tested r after (leb register_places (length s.part.register)) 16 _ (leb_tells register_places (length s.part.register))
      (tested r after (is_open s.part.register identity) 17 _ (same-tells (is_open s.part.register identity))
      (tested r after (no_places places s o reports) 14 0 (send-tells places s o reports) (ends r after))))))
  call-leads (report time identity n) =
      tested r after (bad_time s.part time) 11 _ (time-tells s time)
      (tested r after (not (is_in identities identity)) 12 _ (over-tells identities.most identity)
      (tested r after (not (is_in offers n)) 13 _ (out-tells offers n)
      (tested r after (not (is_open s.part.register identity)) 17 _ (closed-tells s identity)
      (tested r after (overdrawn s.part.register identity n) 18 0 (drawn-tells s identity n) (ends r after)))))
  call-leads (close time identity) =
      tested r after (bad_time s.part time) 11 _ (time-tells s time)
      (tested r after (not (is_in identities identity)) 12 _ (over-tells identities.most identity)
      (tested r after (not (is_open s.part.register identity)) 17 0 (closed-tells s identity) (ends r after)))
