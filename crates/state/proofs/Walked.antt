-- A walk over the rules of a laid memory that carries along the place where the accounts of each begin. Assumes nothing.
use Prim.Native.Nat.{ℕ, ◌+◌, ◌≤◌, ◌<◌}
use native.Mathlib.Omega.{arith}
use mathlib.Core.Path.{◌≡◌, sym, ap, ap₂, ◌∙◌}
use mathlib.Core.List.{List}
use lib.ListN.{length}
use Rattle.rules.specs.Units.{units_of}
use Rattle.rules.specs.declared.Rule.{Rule}
use Rattle.machine.specs.State.{rules_in}
use Rattle.machine.specs.Remaining.{rule_numbered, first_cell}
use Rattle.machine.proofs.Walk.{cells-next, cells-within, cells-end}
use Rattle.state.specs.State.{decode}
use Rattle.state.specs.Inner.Laid.{Laid}
use Rattle.state.proofs.Laid.{many-accounts}

module _ {xs : List ℕ} (h : Laid xs) where
  abbrev rules : List Rule
  rules = rules_in (decode xs)

  -- no more accounts stand before a place than there are
  pub place-within : (r : ℕ) {place : ℕ} → place ≡ first_cell rules r → place ≤ length (decode xs).part.accounts
  place-within r at = omega (arith, at, cells-within rules r, many-accounts h.fits)

  -- past the last rule all of them do
  pub walked : {r place : ℕ} → place ≡ first_cell rules r → length rules ≤ r → length (decode xs).part.accounts ≤ place
  walked {r} at all = omega (arith, at, cells-end rules r all, many-accounts h.fits)

  -- the next rule's accounts begin past those of this one
  pub next_place : {r : ℕ} → r < length rules → {place : ℕ} → place ≡ first_cell rules r → {rule : Rule} → rule ≡ rule_numbered rules r
      → {n : ℕ} → n ≡ length (units_of rule.scope) → place + n ≡ first_cell rules (r + 1)
  next_place {r} low at is many =
      ap₂ (λ (a b : ℕ). a + b) at (many ∙ ap (λ (q : Rule). length (units_of q.scope)) is) ∙ sym (cells-next rules r low)
