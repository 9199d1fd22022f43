-- A freshly armed state in memory: its roots and its rules in their places, and zeros after them. Assumes nothing.
use Prim.Native.Nat.{ℕ, ◌-◌, ◌≤◌}
use native.Mathlib.Omega.{arith}
use mathlib.Core.Path.{◌≡◌, refl, sym, ap, ap₂, ◌∙◌}
use mathlib.Core.List.{List, [], ◌∷◌, ◌++◌, map, append_assoc}
use lib.ListN.{length, drop}
use Rattle.shapes.specs.Shape.{cell, both, named, rows, table, flag, word}
use Rattle.rules.specs.declared.Rule.{Rule}
use Rattle.rules.proofs.Amounts.{number_in}
use Rattle.machine.specs.State.{Profile, cells_of, no_locks, fresh, armed}
use Rattle.tables.specs.Inner.Tables.{zeros, flat, table_numbers as filled}
use Rattle.packing.specs.RulePlace.{rules_table}
use Rattle.tables.proofs.AllZero.{zeros-add}
use Rattle.packing.proofs.Shapes.{rules-written, log-written}
use Rattle.profile.specs.Profile.{roots_table}
use Rattle.given.specs.Parts.{totals_size}
use Rattle.state.specs.State.{size, number, locks_shape, marks_of, profile_shape, as_tuple, totals_shape, part_shape, numbers_shape, totals_in, numbers_of, encode, stored, rest_size}
use Rattle.state.proofs.Accounts.{map-length}
use Rattle.machine.proofs.Cells.{cells-bound}
use Rattle.register.proofs.Shapes.{register-written}

-- the totals of fresh accounts are 0
fresh-flat : (rules : List Rule) → flat (λ x. x ∷ []) (totals_in (map fresh rules)) ≡ zeros (length rules)
unfolding flat zeros fresh
fresh-flat [] = refl
fresh-flat (rule ∷ rules) = ap₂ (λ (x : ℕ) (l : List ℕ). x ∷ l) (number_in rule.limit 0) (fresh-flat rules)

fresh-written : (rules : List Rule) → length rules ≤ 256 → (totals_shape rules).write (totals_in (map fresh (cells_of rules))) ≡ zeros totals_size
unfolding totals_shape rows number cell
fresh-written rules few =
    let cells = cells_of rules in
    let most : length cells ≤ totals_size = cells-bound rules few in
    let many : length (totals_in (map fresh cells)) ≡ length cells = map-length _ (map fresh cells) ∙ map-length fresh cells in
    ap₂ (λ (l : List ℕ) (n : ℕ). l ++ zeros n) (fresh-flat cells) (omega (arith, many))
    ∙ zeros-add (length cells) (totals_size - length cells) ∙ ap zeros (omega (arith, most))

-- the numbers of an armed state, part by part
armed-written : (p : Profile) → encode (armed p)
    ≡ 1 ∷ ((0 ∷ ((p.firm ∷ ((length p.roots ∷ roots_table p.roots) ++ (length p.rules ∷ rules_table p.rules)))
    ++ ((totals_shape p.rules).write (totals_in (map fresh (cells_of p.rules))) ++ (zeros 4 ++ zeros 129)))) ++ zeros 1025)
unfolding encode armed no_locks numbers_of numbers_shape part_shape profile_shape as_tuple locks_shape marks_of both named table rows cell word flag number roots_table filled flat zeros
armed-written p =
    λ i. 1 ∷ ((0 ∷ ((p.firm ∷ ((length p.roots ∷ roots_table p.roots) ++ rules-written (length p.roots) p.rules i))
    ++ ((totals_shape p.rules).write (totals_in (map fresh (cells_of p.rules))) ++ (zeros 4 ++ register-written (length p.roots) [] i)))) ++ log-written (length p.roots) [] i)

-- the same numbers, taken from the front on
joined-parts : (names count places totals locks log rest : List ℕ)
    → (((names ++ (count ++ places)) ++ (totals ++ locks)) ++ log) ++ rest ≡ names ++ (count ++ (places ++ ((totals ++ (locks ++ log)) ++ rest)))
joined-parts names count places totals locks log rest = simp append_assoc

-- what arming writes is the armed state, stored
pub armed-stored : (p : Profile) (xs : List ℕ) → length p.rules ≤ 256
    → (1 ∷ 0 ∷ p.firm ∷ length p.roots ∷ [])
    ++ (roots_table p.roots ++ ((length p.rules ∷ []) ++ (rules_table p.rules ++ (zeros rest_size ++ drop size xs))))
    ≡ stored (armed p) xs
unfolding stored
armed-stored p xs few =
    let totals = (totals_shape p.rules).write (totals_in (map fresh (cells_of p.rules))) in
    let all : totals ++ ((zeros 4 ++ zeros 129) ++ zeros 1025) ≡ zeros rest_size =
    ap₂ (λ (a b : List ℕ). a ++ b) (fresh-written p.rules few) (ap (λ (l : List ℕ). l ++ zeros 1025) (zeros-add 4 129) ∙ zeros-add 133 1025) ∙ zeros-add totals_size 1158 in
    sym (ap (λ (l : List ℕ). l ++ drop size xs) (armed-written p)
    ∙ ap (λ (l : List ℕ). 1 ∷ 0 ∷ p.firm ∷ length p.roots ∷ l)
    (joined-parts (roots_table p.roots) (length p.rules ∷ []) (rules_table p.rules) totals (zeros 4 ++ zeros 129) (zeros 1025) (drop size xs)
    ∙ ap (λ (l : List ℕ). roots_table p.roots ++ ((length p.rules ∷ []) ++ (rules_table p.rules ++ (l ++ drop size xs)))) all))
