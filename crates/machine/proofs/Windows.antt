-- Windows of rules: at most a day, and the longest is above 0 exactly if there is a rate rule. Assumes nothing.
use Prim.Native.Nat.{ℕ, zero, suc, ◌≤◌, ◌<◌, max}
use native.Mathlib.Nat.{zero-max}
use native.Mathlib.Omega.{arith}
use mathlib.Core.Path.{◌≡◌, refl, sym, ap, ap₂, ◌∙◌}
use mathlib.Core.Bool.{Bool, true, ◌&&◌, ◌||◌}
use mathlib.Core.List.{List, [], ◌∷◌}
use lib.Dec.{ltb, leb}
use borrow.Author.Tests.{lt-ltb, leb-true}
use Rattle.laws.proofs.Tests.{and_l, and_r}
use Rattle.laws.specs.Folds.{every}
use Rattle.rules.specs.Rules.{is_rate}
use Rattle.rules.specs.Valid.{is_limit, is_kind, is_scope, is_rule, has_rate}
use Rattle.rules.specs.declared.Kind.{Kind}
use Rattle.rules.specs.declared.Kind.TheVariants.{Rate, Absolute}
use Rattle.rules.specs.declared.Rule.{Rule}
use Rattle.machine.specs.Offers.{window_of, longest}

-- the windows of kinds in range
window-in : (kind : Kind) → is_kind kind ≡ true → (is_rate kind ≡ ltb 0 (window_of kind)) × (window_of kind ≤ 86_400_000)
unfolding is_kind is_rate window_of
window-in (Rate w) h =
    let low = leb-true 100 w (and_l (leb 100 w) (leb w 86_400_000) h) in
    (sym (lt-ltb 0 w (omega arith)), leb-true w 86_400_000 (and_r (leb 100 w) (leb w 86_400_000) h))
window-in Absolute h = (refl, omega arith)

-- the greater of two numbers is above 0 if one of them is
either : (m n : ℕ) → (ltb 0 m || ltb 0 n) ≡ ltb 0 (max m n)
either zero n = ap (ltb 0) (sym (zero-max n))
either (suc m) n = ap (λ (b : Bool). b || ltb 0 n) (lt-ltb 0 (suc m) (omega arith)) ∙ sym (lt-ltb 0 (max (suc m) n) (omega arith))

-- the kind of a valid rule is in range
kind-in : (roots : ℕ) (rule : Rule) → is_rule roots rule ≡ true → is_kind rule.kind ≡ true
unfolding is_rule
kind-in roots rule h =
    let l = is_limit rule.limit in
    let k = is_kind rule.kind in
    and_r l k (and_l (l && k) (is_scope roots rule.scope) h)

-- valid rules have a rate rule exactly if their longest window is above 0, and it is at most a day
pub rate-longest : (roots : ℕ) (rules : List Rule) → every (is_rule roots) rules ≡ true
    → (has_rate rules ≡ ltb 0 (longest rules)) × (longest rules ≤ 86_400_000)
unfolding every has_rate longest
rate-longest roots [] h = (refl, omega arith)
rate-longest roots (rule ∷ rest) h =
    let w = window-in rule.kind (kind-in roots rule (and_l (is_rule roots rule) (every (is_rule roots) rest) h)) in
    let r = rate-longest roots rest (and_r (is_rule roots rule) (every (is_rule roots) rest) h) in (
      ap₂ (λ (a b : Bool). a || b) w.0 r.0 ∙ either (window_of rule.kind) (longest rest),
      omega (arith, w.1, r.1),
    )
