-- What tests tell: a test that passes exactly if a sentence holds, and the first of a list of tests that passes. Assumes nothing.
use Prim.Native.Nat.{ℕ, suc, ◌≤◌, ◌<◌}
use native.Mathlib.Omega.{arith}
use mathlib.Core.Path.{◌≡◌, refl, sym, ap}
use mathlib.Core.Logic.{◌↔◌, ◌⊎◌, inl, inr, ⊎_elim}
use mathlib.Core.Bool.{Bool, true, false, not, cond, ◌&&◌, ◌||◌, false≢true}
use mathlib.Core.List.{List, [], ◌∷◌}
use lib.Dec.{T, leb, ltb, eqb, lit≤}
use borrow.Author.Tests.{ltb-true, ltb-false, leb-true, leb-false, eqb-true, lt-ltb, le-ltb, le-leb, lt-leb, eq-eqb, not-true}
use Rattle.rules.specs.Allowance.{All}
use Rattle.machine.specs.Refusals.{first_of}

-- a test passes exactly if a sentence holds
abbrev pub Tells : Bool → Type 0 → Type 0
Tells b P = (b ≡ true) ↔ P

-- so it fails exactly if the sentence does not hold
pub tells-not : {P : Type 0} (a : Bool) → Tells a P → (a ≡ false) ↔ (P → ⊥)
tells-not true t = (λ e p. absurd (false≢true (sym e)), λ n. absurd (n (t.0 refl)))
tells-not false t = (λ e p. false≢true (t.1 p), λ n. refl)

pub not-tells : {P : Type 0} (a : Bool) → Tells a P → Tells (not a) (P → ⊥)
not-tells true t = (λ e p. absurd (false≢true e), λ n. absurd (n (t.0 refl)))
not-tells false t = (λ e p. false≢true (t.1 p), λ n. refl)

pub and-tells : {P Q : Type 0} (a b : Bool) → Tells a P → Tells b Q → Tells (a && b) (P × Q)
and-tells true b t u = (λ e. (t.0 refl, u.0 e), λ h. u.1 h.1)
and-tells false b t u = (λ e. absurd (false≢true e), λ h. absurd (false≢true (t.1 h.0)))

-- a conjunction fails if one of its parts does
pub or-tells : {P Q : Type 0} (a b : Bool) → Tells (not a) P → Tells (not b) Q → Tells (not (a && b)) (P ⊎ Q)
or-tells true b t u = (λ e. inr (u.0 e), ⊎_elim (λ p. absurd (false≢true (t.1 p))) u.1)
or-tells false b t u = (λ e. inl (t.0 refl), λ h. refl)

pub three-tells : {P Q R : Type 0} (a b c : Bool) → Tells (not a) P → Tells (not b) Q → Tells (not c) R → Tells (not (a && b && c)) (P ⊎ Q ⊎ R)
three-tells true b c t u v = (
  λ e. inr ((or-tells b c u v).0 e),
  ⊎_elim (λ p. absurd (false≢true (t.1 p))) (or-tells b c u v).1,
)
three-tells false b c t u v = (λ e. inl (t.0 refl), λ h. refl)

-- a disjunction passes if one of its parts does
pub either-tells : {P Q : Type 0} (a b : Bool) → Tells a P → Tells b Q → Tells (a || b) (P ⊎ Q)
either-tells true b t u = (λ e. inl (t.0 refl), λ h. refl)
either-tells false b t u = (λ e. inr (u.0 e), ⊎_elim (λ p. absurd (false≢true (t.1 p))) u.1)

pub tells_as : {P Q : Type 0} {a : Bool} → Tells a P → P ↔ Q → Tells a Q
tells_as t h = (λ e. h.0 (t.0 e), λ q. t.1 (h.1 q))

-- comparisons
module _ (a b : ℕ) where
  pub leb_tells : Tells (leb a b) (a ≤ b)
  leb_tells = (leb-true a b, le-leb a b)

  pub ltb-tells : Tells (ltb a b) (a < b)
  ltb-tells = (ltb-true a b, lt-ltb a b)

  pub eqb_tells : Tells (eqb a b) (a ≡ b)
  eqb_tells = (eqb-true a b, eq-eqb a b)

  pub above-tells : Tells (not (leb a b)) (b < a)
  above-tells = (λ e. leb-false a b (not-true _ e), λ h. ap not (lt-leb a b h))

  pub least-tells : Tells (not (ltb a b)) (b ≤ a)
  least-tells = (λ e. ltb-false a b (not-true _ e), λ h. ap not (le-ltb a b h))

-- the first test that passes has a number at or above a bound, where all have
pub first-least : (least : ℕ) (tests : List (Bool × ℕ)) → All (λ t. T (leb least t.1)) tests → (n : ℕ) → first_of tests ≡ suc n → least ≤ suc n
unfolding first_of
first-least least [] all n e = absurd (omega arith)
first-least least (t ∷ tests) all n e = go t.0 (first-least least tests all.1 n) e
  where
    go : (b : Bool) → (first_of tests ≡ suc n → least ≤ suc n) → cond b t.1 (first_of tests) ≡ suc n → least ≤ suc n
    go true rest e = let bound : least ≤ t.1 = lit≤ all.0 in omega arith
    go false rest e = rest e
