-- The number that tests give is the one that their sentences give. Assumes nothing.
use Prim.Native.Nat.{ℕ, zero, suc}
use mathlib.Core.Path.{◌≡◌, refl, sym}
use mathlib.Core.Logic.{◌↔◌, ◌⊎◌, inl, inr, ⊎_elim}
use mathlib.Core.Bool.{Bool, true, false, cond, false≢true}
use Rattle.promises.specs.Refusals.{◌when◌else◌, none}
use Rattle.promises.proofs.Tests.{Tells}

-- a number is the one that sentences give
abbrev pub Gives : ℕ → (ℕ → Type 0) → Type 0
Gives r L = (n : ℕ) → (r ≡ n) ↔ L n

-- the first of two numbers that is not 0
unfoldable pub or_else : ℕ → ℕ → ℕ
or_else zero r = r
or_else (suc n) r = suc n

pub or-zero : (n : ℕ) → or_else n 0 ≡ n
unfolding or_else
or-zero zero = refl
or-zero (suc n) = refl

pub none-gives : Gives 0 none
none-gives n = (λ e. sym e, λ e. sym e)

-- tests that sentences belong to, before a number that others give where none of these tests passes
module _ (r : ℕ) (after : ℕ → Type 0) where
  abbrev pub Leads : ℕ → (ℕ → Type 0) → Type 0
  Leads x L = (x ≡ 0 → Gives r after) → Gives (or_else x r) L

  pub ends : Leads 0 after
  unfolding or_else
  ends h = h refl

  pub tested : {P : Type 0} {L : ℕ → Type 0} (b : Bool) (k x : ℕ) → Tells b P → Leads x L → Leads (cond b (suc k) x) (suc k when P else L)
  unfolding or_else
  tested true k x t rest h n = (λ e. inl (sym e, t.0 refl), ⊎_elim (λ p. sym p.0) (λ p. absurd (p.0 (t.0 refl))))
  tested false k x t rest h n = (
    λ e. inr (λ p. false≢true (t.1 p), (rest h n).0 e),
    ⊎_elim (λ p. absurd (false≢true (t.1 p.1))) (λ p. (rest h n).1 p.1),
  )
