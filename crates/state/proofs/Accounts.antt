-- Rules with their totals are accounts, and the two apart again. Assumes nothing.
use Prim.Native.Nat.{ℕ, zero, suc, ◌≤◌}
use native.Mathlib.Nat.{not-suc-le-zero, le_of_suc-le-suc}
use mathlib.Core.Path.{◌≡◌, refl, ap, ap₂}
use mathlib.Core.Bool.{true}
use mathlib.Core.List.{List, [], ◌∷◌, ◌++◌, map}
use lib.ListN.{length, take, set}
use Rattle.laws.proofs.Tests.{and_l, and_r}
use Rattle.laws.specs.Folds.{every}
use Rattle.rules.specs.Amounts.{is_of}
use Rattle.rules.specs.declared.Rule.{Rule}
use Rattle.rules.specs.declared.Account.{Account}
use Rattle.rules.proofs.Amounts.{number_in, of-in, in-number}
use Rattle.machine.specs.State.{account_rule}
use Rattle.state.specs.State.{totals_in, accounts_of}

-- rules with their totals, and the two apart again
pub accounts-rules : (rules : List Rule) (totals : List ℕ) → length rules ≤ length totals → map account_rule (accounts_of rules totals) ≡ rules
unfolding accounts_of
accounts-rules [] totals h = refl
accounts-rules (rule ∷ rules) [] h = absurd (not-suc-le-zero h)
accounts-rules (rule ∷ rules) (t ∷ totals) h = ap (λ (l : List Rule). rule ∷ l) (accounts-rules rules totals (le_of_suc-le-suc h))

pub accounts-totals : (rules : List Rule) (totals : List ℕ) → length rules ≤ length totals → totals_in (accounts_of rules totals) ≡ take (length rules) totals
unfolding accounts_of
accounts-totals [] totals h = refl
accounts-totals (rule ∷ rules) [] h = absurd (not-suc-le-zero h)
accounts-totals (rule ∷ rules) (t ∷ totals) h =
    ap₂ (λ (x : ℕ) (l : List ℕ). x ∷ l) (number_in rule.limit t) (accounts-totals rules totals (le_of_suc-le-suc h))

pub accounts-measured : (rules : List Rule) (totals : List ℕ) → every (λ a. is_of a.rule.limit a.total) (accounts_of rules totals) ≡ true
unfolding accounts_of every
accounts-measured [] totals = refl
accounts-measured (rule ∷ rules) [] = refl
accounts-measured (rule ∷ rules) (t ∷ totals) = rw (of-in rule.limit t) (accounts-measured rules totals)

pub accounts-again : (accounts : List Account) (more : List ℕ) → every (λ a. is_of a.rule.limit a.total) accounts ≡ true
    → accounts_of (map account_rule accounts) (totals_in accounts ++ more) ≡ accounts
unfolding accounts_of every
accounts-again [] more h = refl
accounts-again (a ∷ rest) more h =
    let others = every (λ (b : Account). is_of b.rule.limit b.total) rest in
    (λ k. record { rule = a.rule; total = in-number a.rule.limit a.total (and_l (is_of a.rule.limit a.total) others h) k }
    ∷ accounts-again rest more (and_r (is_of a.rule.limit a.total) others h) k)

-- as many of one thing each as there are
pub map-length : {A B : Type 0} (f : A → B) (l : List A) → length (map f l) ≡ length l
map-length f [] = refl
map-length f (a ∷ l) = ap suc (map-length f l)

pub map-set : {A B : Type 0} (g : A → B) (l : List A) (i : ℕ) (y : A) → map g (set l i y) ≡ set (map g l) i (g y)
map-set g [] i y = refl
map-set g (x ∷ l) zero y = refl
map-set g (x ∷ l) (suc i) y = ap (λ m. g x ∷ m) (map-set g l i y)
