-- Which firm, roots and rules some accepted profile gives, as a test. Assumes nothing.
use Rattle.std.specs.Prelude.{ℕ, Bool, true, not, ◌&&◌, List, [], ◌∷◌, length, eqb}
use Rattle.measures.specs.Ranges.{◌to◌, is_in}
use Rattle.laws.specs.Folds.{every}
use Rattle.rules.specs.Valid.{is_rule}
use Rattle.machine.specs.State.{Profile}
use Rattle.admission.specs.Admission.{are_in_order}
use Rattle.given.specs.Names.{is_name_number}

-- a name that does not stand among these
unfoldable pub is_fresh : ℕ → List ℕ → Bool
is_fresh name [] = true
is_fresh name (x ∷ xs) = not (eqb x name) && is_fresh name xs

-- each the number of a root's name, and no two the same
unfoldable pub are_roots : List ℕ → Bool
are_roots [] = true
are_roots (name ∷ names) = is_name_number 1 6 name && is_fresh name names && are_roots names

-- firm, roots and rules such as some accepted profile gives
unfoldable pub is_made : Profile → Bool
is_made p =
    is_name_number 1 4 p.firm && is_in (0 to 64) (length p.roots) && are_roots p.roots && is_in (1 to 256) (length p.rules)
    && every (is_rule (length p.roots)) p.rules && are_in_order (length p.roots) [] 0 p.rules
