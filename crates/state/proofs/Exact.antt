-- The map is exact. Assumes nothing.
use Prim.Native.Nat.{◌≤◌}
use mathlib.Core.Path.{◌≡◌, refl}
use mathlib.Core.Bool.{true}
use mathlib.Core.List.{List}
use lib.ListN.{length}
use Rattle.laws.proofs.Tests.{and_l}
use Rattle.shapes.specs.Shape.{Exact, cell, both, named, table}
use Rattle.shapes.proofs.Exact.{one-exact, both-exact, named-exact, rows-exact, table-exact, flag-exact, word-exact}
use Rattle.shapes.proofs.Valid.{table-few}
use Rattle.rules.specs.declared.Rule.{Rule}
use Rattle.packing.proofs.Shapes.{rules_exact, log-exact}
use Rattle.machine.specs.State.{Profile}
use Rattle.given.specs.Parts.{totals_size}
use Rattle.state.specs.State.{number, locks_of, marks_of, locks_shape, from_tuple, as_tuple, profile_shape, totals_shape, part_shape, PartNumbers, numbers_shape}
use Rattle.register.proofs.Shapes.{register-exact}

pub number-exact : Exact number
unfolding number
number-exact = one-exact _

pub locks-exact : Exact locks_shape
unfolding locks_shape locks_of marks_of
locks-exact =
    named-exact _ _ _
    (both-exact _ _ (word-exact _ flag-exact) (λ _ _. both-exact _ _ (word-exact _ flag-exact) (λ _ _. both-exact _ _ number-exact (λ _ _. number-exact)))) (λ b. refl)
    (λ a h. refl)

pub profile-exact : Exact profile_shape
unfolding profile_shape from_tuple as_tuple
profile-exact =
    named-exact _ _ _
    (both-exact _ _ number-exact (λ _ _. both-exact _ _ (table-exact 64 _ number-exact) (λ roots h. rules_exact (length roots) (table-few 64 number roots h)))) (λ b. refl)
    (λ a h. refl)

pub totals-exact : (rules : List Rule) → Exact (totals_shape rules)
unfolding totals_shape
totals-exact rules = rows-exact totals_size _ _ number-exact

-- a valid profile, and so a valid part, has at most 64 roots
pub profile-few : (p : Profile) → profile_shape.ok p ≡ true → length p.roots ≤ 64
unfolding profile_shape named both as_tuple number cell
profile-few p h = table-few 64 number p.roots (and_l ((table 64 number).ok p.roots) _ h)

pub part-exact : Exact part_shape
unfolding part_shape
part-exact = both-exact _ _ number-exact (λ _ _. both-exact _ _ profile-exact (λ p h. both-exact _ _ (totals-exact p.rules) (λ _ _. both-exact _ _ locks-exact (λ _ _. register-exact (length p.roots) (profile-few p h)))))

pub part-few : (p : PartNumbers) → part_shape.ok p ≡ true → length p.1.0.roots ≤ 64
unfolding part_shape both number cell
part-few p h = profile-few p.1.0 (and_l (profile_shape.ok p.1.0) _ h)

pub numbers-exact : Exact numbers_shape
unfolding numbers_shape
numbers-exact = both-exact _ _ (one-exact _) (λ _ _. both-exact _ _ part-exact (λ p h. log-exact (length p.1.0.roots) (part-few p h)))
