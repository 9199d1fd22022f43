-- `views::root_of` meets its contract: the names of the roots stand in their places. Assumes nothing.
use native.Mathlib.Omega.{arith}
use Rattle.views.proofs.Held.{laid, few-roots}
use Rattle.views.proofs.Answers.{place-known, place-unknown}
use Rattle.views.proofs.root_of.Goals as goal

pub roots_in-roots-requires : goal.roots_in-roots-requires
roots_in-roots-requires c = laid _ c.requires

pub overflow_add-end : goal.overflow_add-end
overflow_add-end c = omega (arith, c.roots_in-roots.ensures, few-roots _ c.requires)

pub slice_bounds-root_number-end : goal.slice_bounds-root_number-end
slice_bounds-root_number-end c = omega (arith, c.roots_in-roots.ensures, few-roots _ c.requires, (laid _ c.requires).long)

pub returns-then-root-roots : goal.returns-then-root-roots
returns-then-root-roots c = place-known _ c.requires _ c.roots_in-roots.ensures _ _ c.root_number-root.ensures c.if-root-roots.true

pub returns : goal.returns
returns c = place-unknown _ c.requires _ c.roots_in-roots.ensures _ _ c.root_number-root.ensures c.if-root-roots.false
