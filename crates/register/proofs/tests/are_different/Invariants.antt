-- `register::tests::are_different` meets its contract: the orders from place i on are marked, and whether they differ is known. Assumes nothing.
use mathlib.Core.Path.{◌≡◌}
use lib.ListN.{drop}
use Rattle.machine.specs.Register.{are_different}
use Rattle.register.specs.Register.{register_of}
use Rattle.register.proofs.Differing.{Marked}
use Rattle.register.proofs.tests.are_different.Given as goal

abbrev pub invariant-loop-i : goal.invariant-loop-i
invariant-loop-i l = (l.good ≡ are_different (drop l.i (register_of l.k l.register))) × Marked l.marks (drop l.i (register_of l.k l.register))
