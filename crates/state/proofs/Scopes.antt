-- Rules by their second number: which of them cover an offer, and how many accounts each has. Assumes nothing.
use Prim.Native.Nat.{ℕ}
use mathlib.Core.Path.{◌≡◌, refl, sym, ap, ◌∙◌}
use mathlib.Core.Bool.{Bool, true, false, cond, ◌&&◌, ◌||◌}
use lib.ListN.{length}
use lib.Dec.{eqb}
use borrow.Author.Tests.{eq-eqb, ne_eqb}
use Rattle.rules.specs.Rules.{covers, is_rate}
use Rattle.rules.specs.declared.Kind.TheVariants.{Rate, Absolute}
use Rattle.rules.specs.Units.{units_of, scope_for}
use Rattle.rules.specs.declared.Scope.{Scope}
use Rattle.rules.specs.declared.Scope.TheVariants.{EveryFill, WholeRoot, OneUnit}
use Rattle.packing.specs.RulePlace.{scope_from, kind_from}

module _ (n r u : ℕ) {scope : Scope} (is : scope ≡ scope_from n r u) where
  -- a rule covers the fills of its root, and of its unit if it has one
  pub covered-is : (root unit : ℕ) → (eqb n 0 || (eqb r root && (eqb n 1 || eqb u unit))) ≡ covers (scope_for scope unit) root unit
  unfolding scope_from covers scope_for
  covered-is root unit = go (eqb n 0) (eqb n 1) ∙ ap (λ (s : Scope). covers (scope_for s unit) root unit) (sym is)
    where
      go : (a b : Bool) → (a || (eqb r root && (b || eqb u unit))) ≡ covers (scope_for (cond a EveryFill (cond b (WholeRoot r) (OneUnit r u))) unit) root unit
      go true b = refl
      go false true = rw (eq-eqb unit unit refl)
      go false false = refl

  -- it has four accounts if it is a root's without a unit, else one
  pub four-accounts : n ≡ 1 → 4 ≡ length (units_of scope)
  unfolding scope_from units_of
  four-accounts one = sym (ap (λ (s : Scope). length (units_of s)) (is ∙ ap (λ (m : ℕ). scope_from m r u) one))

  pub one-account : (n ≡ 1 → ⊥) → 1 ≡ length (units_of scope)
  unfolding scope_from units_of
  one-account other = sym (ap (λ (s : Scope). length (units_of s)) is ∙ rw (ne_eqb n 1 other) (go (eqb n 0)))
    where
      go : (a : Bool) → length (units_of (cond a EveryFill (OneUnit r u))) ≡ 1
      go true = refl
      go false = refl

-- a rule is a rate rule by its kind's number
pub rate-by : (n window : ℕ) → is_rate (kind_from n window) ≡ eqb n 0
unfolding kind_from is_rate
rate-by n window = go (eqb n 0)
  where
    go : (b : Bool) → is_rate (cond b (Rate window) Absolute) ≡ b
    go true = refl
    go false = refl
