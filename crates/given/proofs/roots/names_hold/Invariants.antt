-- `given::names_hold` meets its contract: the names from place i on are roots, and marked. Assumes nothing.
use Prim.Native.Nat.{◌≤◌}
use mathlib.Core.Bool.{true}
use mathlib.Core.Path.{◌≡◌}
use Rattle.given.specs.Given.{are_roots}
use Rattle.given.proofs.Places.{names_from}
use Rattle.given.proofs.Marks.{Marked}
use Rattle.given.proofs.roots.names_hold.Given as goal

abbrev pub invariant-loop-i : goal.invariant-loop-i
invariant-loop-i l = (l.i ≤ l.n) × (are_roots (names_from l.n l.names l.i) ≡ true) × Marked l.marks (names_from l.n l.names l.i)
