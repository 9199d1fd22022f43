-- The order of an identity by its place, and orders of different identities. Assumes nothing.
use Prim.Native.Nat.{ℕ, zero, suc, ◌+◌, ◌≤◌, ◌<◌, zero-le}
use mathlib.Core.Path.{◌≡◌, refl, sym, ap, ap₂, ◌∙◌}
use mathlib.Core.Bool.{Bool, true, false, not, cond, ◌||◌, false≢true}
use mathlib.Core.List.{List, [], ◌∷◌, ◌++◌, map}
use native.Mathlib.Nat.{not-suc-le-zero, le_of_suc-le-suc}
use native.Mathlib.Omega.{arith}
use lib.ListN.{length, get_or, take, drop, set, drop_of_length-le}
use lib.Dec.{eqb, ltb}
use borrow.Author.Tests.{eqb-true, eq-eqb, ne_eqb, ltb-true, ltb-false, lt-ltb, not-true}
use Rattle.laws.proofs.Tests.{and_l, and_r, same_test}
use Rattle.laws.specs.Folds.{any_of, keep}
use Rattle.machine.specs.declared.Sent.{Sent}
use Rattle.machine.specs.Register.{has_identity, is_open, no_sent, sent_at, used_up, are_different}
use Rattle.machine.proofs.Register.{or_no}
use Rattle.register.specs.Register.{place_of_identity, sent_at_place}

module _ (identity : ℕ) where
  pub place-most : (register : List Sent) → place_of_identity register identity ≤ length register
  unfolding place_of_identity
  place-most [] = zero-le
  place-most (sent ∷ rest) = go (has_identity identity sent) (place-most rest)
    where
      go : (b : Bool) → place_of_identity rest identity ≤ length rest → cond b 0 (place_of_identity rest identity + 1) ≤ suc (length rest)
      go true h = zero-le
      go false h = omega arith

  -- an order is open exactly if it has a place
  pub place-open : (register : List Sent) → is_open register identity ≡ ltb (place_of_identity register identity) (length register)
  unfolding is_open any_of place_of_identity
  place-open [] = refl
  place-open (sent ∷ rest) = go (has_identity identity sent) (place-open rest)
    where
      next : (a b : ℕ) → ltb a b ≡ ltb (a + 1) (suc b)
      next a b = same_test (ltb a b) (ltb (a + 1) (suc b)) (λ h. lt-ltb (a + 1) (suc b) (omega (arith, ltb-true a b h))) (λ h. lt-ltb a b (omega (arith, ltb-true (a + 1) (suc b) h)))

      go : (b : Bool) → any_of (has_identity identity) rest ≡ ltb (place_of_identity rest identity) (length rest)
          → (b || any_of (has_identity identity) rest) ≡ ltb (cond b 0 (place_of_identity rest identity + 1)) (suc (length rest))
      go true h = sym (lt-ltb 0 (suc (length rest)) (omega arith))
      go false h = h ∙ next (place_of_identity rest identity) (length rest)

  -- and there it stands
  pub place-sent : (register : List Sent) → sent_at_place register (place_of_identity register identity) ≡ sent_at register identity
  unfolding place_of_identity sent_at
  place-sent [] = refl
  place-sent (sent ∷ rest) = go (has_identity identity sent) (place-sent rest)
    where
      go : (b : Bool) → get_or rest (place_of_identity rest identity) no_sent ≡ sent_at rest identity
          → get_or (sent ∷ rest) (cond b 0 (place_of_identity rest identity + 1)) no_sent ≡ cond b sent (sent_at rest identity)
      go true h = refl
      go false h =
          let n : place_of_identity rest identity + 1 ≡ suc (place_of_identity rest identity) = omega arith in
          ap (λ (i : ℕ). get_or (sent ∷ rest) i no_sent) n ∙ h

  open-identity : (register : List Sent) → is_open register identity ≡ true → (sent_at register identity).identity ≡ identity
  unfolding is_open any_of sent_at has_identity
  open-identity [] h = absurd (false≢true h)
  open-identity (sent ∷ rest) h = go (eqb sent.identity identity) refl h (open-identity rest)
    where
      go : (b : Bool) → eqb sent.identity identity ≡ b → (b || any_of (has_identity identity) rest) ≡ true
          → (any_of (has_identity identity) rest ≡ true → (sent_at rest identity).identity ≡ identity) → (cond b sent (sent_at rest identity)).identity ≡ identity
      go true e h next = eqb-true sent.identity identity e
      go false e h next = next h

  pub place-identity : (register : List Sent) → is_open register identity ≡ true → (sent_at_place register (place_of_identity register identity)).identity ≡ identity
  place-identity register h = ap (λ (sent : Sent). sent.identity) (place-sent register) ∙ open-identity register h

  -- one place more: the first of the orders that are left has the identity, or not; and none is left
  module _ (sent : Sent) (rest : List Sent) (i : ℕ) where
    pub place_here : has_identity identity sent ≡ true → i + place_of_identity (sent ∷ rest) identity ≡ i
    unfolding place_of_identity
    place_here h = rw h (omega arith)

    pub place-later : has_identity identity sent ≡ false → i + place_of_identity (sent ∷ rest) identity ≡ i + 1 + place_of_identity rest identity
    unfolding place_of_identity
    place-later h = rw h (omega arith)

  pub place_end : (register : List Sent) (i : ℕ) → length register ≤ i → i + place_of_identity (drop i register) identity ≡ i
  unfolding place_of_identity
  place_end register i h = rw (drop_of_length-le register h) (omega arith)

  -- no order has the identity where its place is past them all
  pub place_none : (register : List Sent) (from k : ℕ) → from + length register ≡ k → eqb (from + place_of_identity register identity) k ≡ not (is_open register identity)
  place_none register from k e = rw (place-open register) (go (ltb (place_of_identity register identity) (length register)) refl)
    where
      go : (b : Bool) → ltb (place_of_identity register identity) (length register) ≡ b → eqb (from + place_of_identity register identity) k ≡ not b
      go true h = ne_eqb (from + place_of_identity register identity) k (λ s. omega (arith, ltb-true (place_of_identity register identity) (length register) h))
      go false h = eq-eqb (from + place_of_identity register identity) k (omega (arith, place-most register, ltb-false (place_of_identity register identity) (length register) h))

-- of orders that all differ, the first has an identity that no later one has
module _ (first : Sent) (rest : List Sent) (h : are_different (first ∷ rest) ≡ true) where
  pub first-apart : is_open rest first.identity ≡ false
  unfolding are_different
  first-apart = not-true (is_open rest first.identity) (and_l (not (is_open rest first.identity)) (are_different rest) h)

  pub rest-different : are_different rest ≡ true
  unfolding are_different
  rest-different = and_r (not (is_open rest first.identity)) (are_different rest) h

open_at : (register : List Sent) (i : ℕ) → i < length register → is_open register (sent_at_place register i).identity ≡ true
unfolding is_open any_of has_identity
open_at [] i l = absurd (not-suc-le-zero l)
open_at (sent ∷ rest) zero l = ap (λ (b : Bool). b || any_of (has_identity sent.identity) rest) (eq-eqb sent.identity sent.identity refl)
open_at (sent ∷ rest) (suc i) l = go (eqb sent.identity (sent_at_place rest i).identity) (open_at rest i (le_of_suc-le-suc l))
  where
    go : (b : Bool) {c : Bool} → c ≡ true → (b || c) ≡ true
    go true h = refl
    go false h = h

later-apart : (first : Sent) (rest : List Sent) (i : ℕ) → i < length rest → are_different (first ∷ rest) ≡ true
    → has_identity (sent_at_place rest i).identity first ≡ false
unfolding has_identity
later-apart first rest i l h =
    ne_eqb first.identity (sent_at_place rest i).identity
    (λ e. false≢true (sym (first-apart first rest h) ∙ ap (is_open rest) e ∙ open_at rest i l))

-- an identity that no order has changes none
module _ (identity n : ℕ) where
  none-used : (register : List Sent) → is_open register identity ≡ false → map (used_up identity n) register ≡ register
  unfolding is_open any_of used_up
  none-used [] h = refl
  none-used (sent ∷ rest) h =
      let o = or_no (has_identity identity sent) (any_of (has_identity identity) rest) h in
      ap₂ (λ (x : Sent) (l : List Sent). x ∷ l) (rw o.0) (none-used rest o.1)

  other-used : (sent : Sent) → has_identity identity sent ≡ false → used_up identity n sent ≡ sent
  unfolding used_up
  other-used sent h = rw h

-- and closes none
none-closed : (identity : ℕ) (register : List Sent) → is_open register identity ≡ false → keep (λ sent. not (has_identity identity sent)) register ≡ register
unfolding is_open any_of keep
none-closed identity [] h = refl
none-closed identity (sent ∷ rest) h =
    let o = or_no (has_identity identity sent) (any_of (has_identity identity) rest) h in
    rw (o.0, none-closed identity rest o.1)

-- a report changes the one order, and a closing takes it out
pub used-one : (n : ℕ) (register : List Sent) (i : ℕ) → i < length register → are_different register ≡ true
    → map (used_up (sent_at_place register i).identity n) register ≡ set register i (used_up (sent_at_place register i).identity n (sent_at_place register i))
used-one n [] i l h = absurd (not-suc-le-zero l)
used-one n (sent ∷ rest) zero l h =
    ap (λ (q : List Sent). used_up sent.identity n sent ∷ q) (none-used sent.identity n rest (first-apart sent rest h))
used-one n (sent ∷ rest) (suc i) l h =
    ap₂ (λ (x : Sent) (q : List Sent). x ∷ q) (other-used (sent_at_place rest i).identity n sent (later-apart sent rest i (le_of_suc-le-suc l) h))
    (used-one n rest i (le_of_suc-le-suc l) (rest-different sent rest h))

own : (sent : Sent) → has_identity sent.identity sent ≡ true
unfolding has_identity
own sent = eq-eqb sent.identity sent.identity refl

pub closed-one : (register : List Sent) (i : ℕ) → i < length register → are_different register ≡ true
    → keep (λ sent. not (has_identity (sent_at_place register i).identity sent)) register ≡ take i register ++ drop (suc i) register
unfolding keep
closed-one [] i l h = absurd (not-suc-le-zero l)
closed-one (sent ∷ rest) zero l h = rw (own sent) (none-closed sent.identity rest (first-apart sent rest h))
closed-one (sent ∷ rest) (suc i) l h =
    rw (later-apart sent rest i (le_of_suc-le-suc l) h) (ap (λ (q : List Sent). sent ∷ q) (closed-one rest i (le_of_suc-le-suc l) (rest-different sent rest h)))
