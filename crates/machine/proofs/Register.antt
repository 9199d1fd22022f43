-- Laws of the register: the order of an identity, the places that it keeps, and that every deed leaves it such as soundness asks for.
-- Assumes nothing.
use Prim.Native.Nat.{ℕ, zero, suc, ◌+◌, ◌-◌, ◌≤◌, ◌<◌, zero-le}
use mathlib.Core.Path.{◌≡◌, refl, sym, ap, ap₂, ◌∙◌}
use mathlib.Core.Bool.{Bool, true, false, not, cond, ◌&&◌, ◌||◌, false≢true}
use mathlib.Core.List.{List, [], ◌∷◌, ◌++◌, map}
use lib.ListN.{length, length-append, length-map}
use lib.Dec.{eqb}
use borrow.Author.Tests.{lt-ltb, eq-eqb, ne_eqb}
use native.Mathlib.Omega.{arith}
use Rattle.laws.proofs.Tests.{and_l, and_r, tests}
use Rattle.laws.specs.Folds.{every, any_of, keep, sum_of}
use Rattle.measures.specs.Ranges.{In, units, premiums, identities, contracts_open, reports_left}
use Rattle.measures.proofs.Determined.{in-test}
use Rattle.machine.specs.declared.Sent.{Sent}
use Rattle.machine.specs.Register.{register_places, has_identity, is_open, sent_at, used_up, kept_places, is_sent, are_different}
use Rattle.machine.proofs.Lists.{every-imp, every_map, every-keep, every-join, keep-le}

-- an order whose numbers are in range
pub record SentIn (roots : ℕ) (sent : Sent) : Type 0 where
  pub identity : In identities sent.identity
  pub root : sent.root < roots
  pub unit : In units sent.unit
  pub premium : In premiums sent.premium.0
  pub contracts : In contracts_open sent.contracts.0
  pub reports : In reports_left sent.reports

pub sent-in : (roots : ℕ) (sent : Sent) → is_sent roots sent ≡ true → SentIn roots sent
unfolding is_sent
sent-in roots sent h = record {
  identity = (search tests depth 12, search tests depth 12);
  root = search tests depth 12;
  unit = (search tests depth 12, search tests depth 12);
  premium = (search tests depth 12, search tests depth 12);
  contracts = (search tests depth 12, search tests depth 12);
  reports = (search tests depth 12, search tests depth 12);
}

pub in-sent : (roots : ℕ) (sent : Sent) → SentIn roots sent → is_sent roots sent ≡ true
unfolding is_sent
in-sent roots sent h =
    rw
    (in-test identities sent.identity h.identity, lt-ltb sent.root roots h.root, in-test units sent.unit h.unit, in-test premiums sent.premium.0 h.premium, in-test contracts_open sent.contracts.0 h.contracts)
    (in-test reports_left sent.reports h.reports)

-- the order of an identity that is open has what every order has
pub open-has : (ok : Sent → Bool) (register : List Sent) (identity : ℕ) → every ok register ≡ true → is_open register identity ≡ true
    → ok (sent_at register identity) ≡ true
unfolding every is_open any_of sent_at
open-has ok [] identity h o = absurd (false≢true o)
open-has ok (sent ∷ rest) identity h o =
    go (has_identity identity sent) o (open-has ok rest identity (and_r (ok sent) (every ok rest) h))
  where
    go : (b : Bool) → (b || any_of (has_identity identity) rest) ≡ true
        → (any_of (has_identity identity) rest ≡ true → ok (sent_at rest identity) ≡ true) → ok (cond b sent (sent_at rest identity)) ≡ true
    go true o next = and_l (ok sent) (every ok rest) h
    go false o next = next o

not-true : (b : Bool) → not b ≡ true → b ≡ false
not-true true h = absurd (false≢true h)
not-true false h = refl

-- neither of two tests holds
pub or_no : (a b : Bool) → (a || b) ≡ false → (a ≡ false) × (b ≡ false)
or_no true b h = absurd (false≢true (sym h))
or_no false b h = (refl, h)

-- a number that is not 0
pos_of : (k : ℕ) → eqb k 0 ≡ false → 0 < k
pos_of zero e = absurd (false≢true (sym e))
pos_of (suc k) e = omega arith

module _ (identity n : ℕ) where
  used_le : (register : List Sent) → kept_places (map (used_up identity n) register) ≤ kept_places register
  unfolding kept_places sum_of used_up
  used_le [] = zero-le
  used_le (sent ∷ rest) = go (has_identity identity sent) (used_le rest)
    where
      go : (b : Bool) → kept_places (map (used_up identity n) rest) ≤ kept_places rest
          → cond b (sent.reports - 1) sent.reports + kept_places (map (used_up identity n) rest) ≤ sent.reports + kept_places rest
      go true h = omega arith
      go false h = omega arith

  -- a report gives its place back
  pub report-frees : (register : List Sent) → is_open register identity ≡ true → eqb (sent_at register identity).reports 0 ≡ false
      → kept_places (map (used_up identity n) register) + 1 ≤ kept_places register
  unfolding kept_places sum_of used_up is_open any_of sent_at
  report-frees [] o left = absurd (false≢true o)
  report-frees (sent ∷ rest) o left = go (has_identity identity sent) o left (report-frees rest)
    where
      go : (b : Bool) → (b || any_of (has_identity identity) rest) ≡ true → eqb (cond b sent (sent_at rest identity)).reports 0 ≡ false
          → (any_of (has_identity identity) rest ≡ true → eqb (sent_at rest identity).reports 0 ≡ false
          → kept_places (map (used_up identity n) rest) + 1 ≤ kept_places rest)
          → cond b (sent.reports - 1) sent.reports + kept_places (map (used_up identity n) rest) + 1 ≤ sent.reports + kept_places rest
      go true o left next = omega (arith, used_le rest, pos_of sent.reports left)
      go false o left next = omega (arith, next o left)

  used-in : (roots : ℕ) (sent : Sent) → is_sent roots sent ≡ true → is_sent roots (used_up identity n sent) ≡ true
  unfolding used_up
  used-in roots sent h =
      let is = sent-in roots sent h in
      in-sent roots (used_up identity n sent) (record {
        identity = is.identity;
        root = is.root;
        unit = is.unit;
        premium = is.premium;
        contracts = go (has_identity identity sent) is.contracts;
        reports = fewer (has_identity identity sent) is.reports;
      })
    where
      go : (b : Bool) {k : ℕ} → In contracts_open k → In contracts_open (cond b (k - n) k)
      go true h = (omega arith, omega (arith, h.1))
      go false h = h

      fewer : (b : Bool) {k : ℕ} → In reports_left k → In reports_left (cond b (k - 1) k)
      fewer true h = (omega arith, omega (arith, h.1))
      fewer false h = h

  -- a report leaves the identities
  pub open-used : (register : List Sent) (k : ℕ) → is_open (map (used_up identity n) register) k ≡ is_open register k
  unfolding is_open any_of used_up has_identity
  open-used [] k = refl
  open-used (sent ∷ rest) k = ap (λ (b : Bool). eqb sent.identity k || b) (open-used rest k)

  different-used : (register : List Sent) → are_different (map (used_up identity n) register) ≡ are_different register
  unfolding are_different used_up
  different-used [] = refl
  different-used (sent ∷ rest) = ap₂ (λ (a b : Bool). not a && b) (open-used rest sent.identity) (different-used rest)

-- a closing gives the unused places back
pub closed-le : (test : Sent → Bool) (register : List Sent) → kept_places (keep test register) ≤ kept_places register
unfolding kept_places sum_of keep
closed-le test [] = zero-le
closed-le test (sent ∷ rest) = go (test sent) (closed-le test rest)
  where
    go : (b : Bool) → kept_places (keep test rest) ≤ kept_places rest
        → kept_places (cond b (sent ∷ keep test rest) (keep test rest)) ≤ sent.reports + kept_places rest
    go true h = omega arith
    go false h = omega arith

-- a sending keeps as many as it asks for
pub sent-adds : (register : List Sent) (sent : Sent) → kept_places (register ++ (sent ∷ [])) ≡ kept_places register + sent.reports
unfolding kept_places sum_of
sent-adds [] sent = omega arith
sent-adds (first ∷ rest) sent = omega (arith, sent-adds rest sent)

-- an identity that is not open stays so where orders leave
closed-keep : (test : Sent → Bool) (register : List Sent) (k : ℕ) → is_open register k ≡ false → is_open (keep test register) k ≡ false
unfolding is_open any_of keep
closed-keep test [] k h = refl
closed-keep test (sent ∷ rest) k h = go (has_identity k sent) refl h (test sent) (closed-keep test rest k)
  where
    go : (a : Bool) → has_identity k sent ≡ a → (a || any_of (has_identity k) rest) ≡ false → (b : Bool)
        → (any_of (has_identity k) rest ≡ false → any_of (has_identity k) (keep test rest) ≡ false)
        → any_of (has_identity k) (cond b (sent ∷ keep test rest) (keep test rest)) ≡ false
    go true e h b next = absurd (false≢true (sym h))
    go false e h true next = rw e (next h)
    go false e h false next = next h

-- an identity that is not open may be sent
open-join : (register : List Sent) (sent : Sent) (k : ℕ) → is_open register k ≡ false → (k ≡ sent.identity → ⊥) → is_open (register ++ (sent ∷ [])) k ≡ false
unfolding is_open any_of has_identity
open-join [] sent k h other = rw (ne_eqb sent.identity k (λ e. other (sym e)))
open-join (first ∷ rest) sent k h other = go (eqb first.identity k) h (open-join rest sent k)
  where
    go : (b : Bool) → (b || is_open rest k) ≡ false
        → (is_open rest k ≡ false → (k ≡ sent.identity → ⊥) → is_open (rest ++ (sent ∷ [])) k ≡ false)
        → (b || is_open (rest ++ (sent ∷ [])) k) ≡ false
    go true h next = absurd (false≢true (sym h))
    go false h next = next h other

different-join : (register : List Sent) (sent : Sent) → are_different register ≡ true → is_open register sent.identity ≡ false
    → are_different (register ++ (sent ∷ [])) ≡ true
unfolding are_different is_open any_of has_identity
different-join [] sent h o = refl
different-join (first ∷ rest) sent h o =
    rw (open-join rest sent first.identity (not-true (is_open rest first.identity) (and_l _ (are_different rest) h)) (apart first.identity sent.identity (or_no _ _ o).0))
    (different-join rest sent (and_r (not (is_open rest first.identity)) (are_different rest) h) (or_no (eqb first.identity sent.identity) _ o).1)
  where
    apart : (a b : ℕ) → eqb a b ≡ false → a ≡ b → ⊥
    apart a b e same = false≢true (sym e ∙ eq-eqb a b same)

different-keep : (test : Sent → Bool) (register : List Sent) → are_different register ≡ true → are_different (keep test register) ≡ true
unfolding are_different keep
different-keep test [] h = refl
different-keep test (sent ∷ rest) h =
    go (test sent) (closed-keep test rest sent.identity (not-true (is_open rest sent.identity) (and_l _ (are_different rest) h)))
    (different-keep test rest (and_r (not (is_open rest sent.identity)) (are_different rest) h))
  where
    go : (b : Bool) → is_open (keep test rest) sent.identity ≡ false → are_different (keep test rest) ≡ true
        → are_different (cond b (sent ∷ keep test rest) (keep test rest)) ≡ true
    go true o h = rw o h
    go false o h = h

-- what soundness asks of a register, in a state with so many roots
pub record Registered (roots : ℕ) (register : List Sent) : Type 0 where
  pub few : length register ≤ register_places
  pub registered : every (is_sent roots) register ≡ true
  pub different : are_different register ≡ true

module _ {roots : ℕ} {register : List Sent} (r : Registered roots register) where
  pub registered-used : (identity n : ℕ) → Registered roots (map (used_up identity n) register)
  registered-used identity n = record {
    few = rw length-map r.few;
    registered = every_map (is_sent roots) (used_up identity n) register ∙ every-imp (is_sent roots) _ (used-in identity n roots) register r.registered;
    different = different-used identity n register ∙ r.different;
  }

  pub registered-sent : (sent : Sent) → is_sent roots sent ≡ true → length register < register_places → is_open register sent.identity ≡ false
      → Registered roots (register ++ (sent ∷ []))
  registered-sent sent is low new = record {
    few = simp length-append (omega arith);
    registered = every-join (is_sent roots) register sent r.registered is;
    different = different-join register sent r.different new;
  }

  pub registered-keep : (test : Sent → Bool) → Registered roots (keep test register)
  registered-keep test = record {
    few = omega (arith, keep-le test register, r.few);
    registered = every-keep (is_sent roots) test register r.registered;
    different = different-keep test register r.different;
  }
