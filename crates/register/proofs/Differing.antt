-- Whether the orders in the first places differ, marked by a remainder from the last on, and how many reports they are allowed, one place after the other.
-- Assumes nothing.
use Prim.Native.Nat.{ℕ, ◌+◌, ◌*◌, ◌%◌, ◌≤◌, ◌<◌}
use mathlib.Core.Path.{◌≡◌, refl, sym, ap, ap₂, ◌∙◌}
use mathlib.Core.Logic.{⊎_elim}
use mathlib.Core.Bool.{Bool, true, false, not, ◌&&◌}
use mathlib.Core.List.{List, [], ◌∷◌}
use native.Mathlib.Omega.{arith}
use lib.ListN.{get_or, drop, length-drop, drop_of_length-le}
use lib.Dec.{eqb}
use borrow.Author.Tests.{eqb-false}
use Rattle.laws.specs.Folds.{any_of, sum_of}
use Rattle.laws.proofs.Marks.{unmarked}
use Rattle.bits.specs.Locks.{bit, with_bit}
use Rattle.bits.proofs.Words.{bit-cases, bit-with-same, bit-with-other}
use Rattle.machine.specs.declared.Sent.{Sent}
use Rattle.machine.specs.Register.{has_identity, is_open, no_sent, kept_places, are_different}
use Rattle.register.specs.SentPlace.{sent_from}
use Rattle.register.specs.Register.{register_of, place_of_identity}
use Rattle.register.proofs.Registers.{register-long, identity-at, reports-at, orders-from}
use Rattle.register.proofs.Finding.{place_none}

-- the marks of orders, by the remainders of their identities: no order has an identity whose remainder is not marked
pub record Marked (marks : ℕ) (orders : List Sent) : Type 0 where
  pub new : (identity : ℕ) → bit marks (identity % 64) ≡ 0 → is_open orders identity ≡ false

pub marked-new : {marks : ℕ} {orders : List Sent} → Marked marks orders → (identity : ℕ) {b : Bool} → b ≡ eqb (bit marks (identity % 64)) 1 → b ≡ false
    → is_open orders identity ≡ false
marked-new {marks} m identity is h =
    m.new identity (⊎_elim (λ z. z) (λ one. absurd (eqb-false (bit marks (identity % 64)) 1 (sym is ∙ h) one)) (bit-cases marks (identity % 64)))

marked_more : {marks : ℕ} {orders : List Sent} → Marked marks orders → (sent : Sent) → Marked (with_bit marks (sent.identity % 64)) (sent ∷ orders)
unfolding is_open any_of has_identity
marked_more {marks} m sent = record {
  new = λ identity h.
      let r = sent.identity % 64 in
      let u = unmarked 64 sent.identity (bit marks) (bit (with_bit marks r)) (bit-with-same marks r) (bit-with-other marks r) identity h in
      rw u.0 (m.new identity u.1);
}

module _ (k : ℕ) (xs : List ℕ) where
  abbrev orders : List Sent
  orders = register_of k xs

  -- no order from a place on
  module _ (i : ℕ) (done : k ≤ i) where
    past : drop i orders ≡ []
    past = drop_of_length-le orders {i = i} (omega (arith, register-long k xs))

    pub marked-none : Marked 0 (drop i orders)
    unfolding is_open any_of
    marked-none = rw past (record { new = λ identity h. refl })

    pub differing-none : true ≡ are_different (drop i orders)
    unfolding are_different
    differing-none = rw past

    pub keeping-end : (sum : ℕ) → sum + kept_places (drop i orders) ≡ sum
    unfolding kept_places sum_of
    keeping-end sum = rw past (omega arith)

  -- no order from a place on has an identity where its place is past them all
  pub differing-new : (from : ℕ) → from ≤ k → (identity : ℕ) {place : ℕ} → place ≡ from + place_of_identity (drop from orders) identity
      → eqb place k ≡ not (is_open (drop from orders) identity)
  differing-new from within identity at =
      ap (λ (p : ℕ). eqb p k) at
      ∙ place_none identity (drop from orders) from k (omega (arith, length-drop from orders, register-long k xs))

  -- one order more, from the last on
  module _ (j i : ℕ) (e : i ≡ j + 1) (more : j < k) {identity : ℕ} (is : identity ≡ (sent_from (get_or xs (1 + j * 2) 0 ∷ [])).identity) where
    own : identity ≡ (get_or orders j no_sent).identity
    own = is ∙ sym (identity-at k xs j more)

    back : drop j orders ≡ get_or orders j no_sent ∷ drop i orders
    back = rw e (orders-from k xs j more)

    pub marked-back : {marks : ℕ} → Marked marks (drop i orders) → Marked (with_bit marks (identity % 64)) (drop j orders)
    marked-back m = rw (back, own) (marked_more m (get_or orders j no_sent))

    pub differing-back : {new good : Bool} → new ≡ not (is_open (drop i orders) identity) → good ≡ are_different (drop i orders)
        → (new && good) ≡ are_different (drop j orders)
    unfolding are_different
    differing-back p q = ap₂ (λ (a b : Bool). a && b) p q ∙ rw (back, own)

  -- what is kept so far, and what the orders from a place on keep
  pub keeping-on : (i : ℕ) → i < k → {reports : ℕ} → reports ≡ (sent_from (get_or xs (1 + i * 2) 0 ∷ [])).reports → (sum : ℕ)
      → sum + kept_places (drop i orders) ≡ sum + reports + kept_places (drop (i + 1) orders)
  unfolding kept_places sum_of
  keeping-on i more is sum = rw (orders-from k xs i more) (omega (arith, is, reports-at k xs i more))
