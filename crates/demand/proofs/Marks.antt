-- What each change of the marks does to the trip and the lockout of a level, whether the level's mark stands alone or is a bit of a word.
-- Assumes nothing.
use Prim.Native.Nat.{ℕ, suc}
use mathlib.Core.Path.{◌≡◌, refl, sym, ap, ◌∙◌}
use mathlib.Core.Bool.{Bool, true, false, not, cond, ◌&&◌, ◌||◌}
use lib.Dec.{eqb}
use borrow.Author.Tests.{eqb-true, eqb-false, eq-eqb, ne_eqb}
use native.Mathlib.Nat.{le_refl}
use Rattle.bits.specs.Locks.{bit, with_bit, without_bit}
use Rattle.bits.proofs.Words.{Sets, with-sets, without-sets}
use Rattle.rules.specs.declared.Level.{Level}
use Rattle.rules.specs.declared.Level.TheVariants.{Firm, Root}
use Rattle.machine.specs.State.{Locks}
use Rattle.machine.specs.Locks.{is_tripped, is_by_user, lifted, tripped_by, locked_out}
use Rattle.machine.specs.Offers.{same_level}

-- a bit that stands
abbrev stands : ℕ → ℕ → Bool
stands w r = eqb (bit w r) 1

-- only one root can pass a test
abbrev pub Only : ℕ → (Level → Bool) → Type 0
Only root test = (r : ℕ) → (r ≡ root → ⊥) → test (Root r) ≡ false

-- where a test passes that only one root can pass, the bit of that root is changed, and no other bit
bit-changed : {n root b : ℕ} {f : ℕ → ℕ} → Sets n root b f → (w : ℕ) (test : Level → Bool) → Only root test
    → (r : ℕ) → stands (cond (test (Root root)) (f w) w) r ≡ cond (test (Root r)) (eqb b 1) (stands w r)
bit-changed {root = root} {b = b} {f = f} sets w test other r = go (eqb r root) refl (test (Root root)) refl
  where
    go : (same : Bool) → eqb r root ≡ same → (c : Bool) → test (Root root) ≡ c
        → stands (cond c (f w) w) r ≡ cond (test (Root r)) (eqb b 1) (stands w r)
    go true e true t = rw (eqb-true r root e, t, sets.here w)
    go true e false t = rw (eqb-true r root e, t)
    go false e true t = rw (other r (eqb-false r root e), sets.elsewhere w r (eqb-false r root e))
    go false e false t = rw (other r (eqb-false r root e))

module _ (w root : ℕ) (test : Level → Bool) (other : Only root test) where
  bit-cleared : (r : ℕ) → stands (cond (test (Root root)) (without_bit w root) w) r ≡ (not (test (Root r)) && stands w r)
  bit-cleared r = bit-changed (without-sets 0 root) w test other r ∙ off (test (Root r))
    where
      off : (c : Bool) → cond c false (stands w r) ≡ (not c && stands w r)
      off true = refl
      off false = refl

  bit-set : (r : ℕ) → stands (cond (test (Root root)) (with_bit w root) w) r ≡ (test (Root r) || stands w r)
  bit-set r = bit-changed (with-sets (suc root) root (le_refl (suc root))) w test other r ∙ on (test (Root r))
    where
      on : (c : Bool) → cond c true (stands w r) ≡ (c || stands w r)
      on true = refl
      on false = refl

module _ (l : Locks) (root : ℕ) (test : Level → Bool) (other : Only root test) where
  pub lifted-tripped : (level : Level) → is_tripped (lifted test root l) level ≡ (not (test level) && is_tripped l level)
  unfolding is_tripped lifted
  lifted-tripped Firm = refl
  lifted-tripped (Root r) = bit-cleared l.tripped root test other r

  pub lifted-by_user : (level : Level) → is_by_user (lifted test root l) level ≡ (not (test level) && is_by_user l level)
  unfolding is_by_user lifted
  lifted-by_user Firm = refl
  lifted-by_user (Root r) = bit-cleared l.by_user root test other r

  pub tripped-tripped : (level : Level) → is_tripped (tripped_by test root l) level ≡ (test level || is_tripped l level)
  unfolding is_tripped tripped_by
  tripped-tripped Firm = refl
  tripped-tripped (Root r) = bit-set l.tripped root test other r

  pub tripped-by_user : (level : Level) → is_by_user (tripped_by test root l) level ≡ is_by_user l level
  unfolding is_by_user tripped_by
  tripped-by_user Firm = refl
  tripped-by_user (Root r) = refl

module _ (l : Locks) where
  pub locked_out-tripped : (named level : Level) → is_tripped (locked_out named l) level ≡ is_tripped l level
  unfolding is_tripped locked_out
  locked_out-tripped Firm Firm = refl
  locked_out-tripped Firm (Root r) = refl
  locked_out-tripped (Root root) Firm = refl
  locked_out-tripped (Root root) (Root r) = refl

  pub locked_out-by_user : (named level : Level) → is_by_user (locked_out named l) level ≡ (same_level named level || is_by_user l level)
  unfolding is_by_user locked_out same_level
  locked_out-by_user Firm Firm = refl
  locked_out-by_user Firm (Root r) = refl
  locked_out-by_user (Root root) Firm = refl
  locked_out-by_user (Root root) (Root r) =
      ap (λ (b : Bool). stands (cond b (with_bit l.by_user root) l.by_user) r) (sym (eq-eqb root root refl))
      ∙ bit-set l.by_user root (same_level (Root root)) (λ r h. ne_eqb root r (λ e. h (sym e))) r
