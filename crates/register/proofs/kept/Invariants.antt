-- `register::kept` meets its contract: the reports of the first i orders, and those of the orders from place i on. Assumes nothing.
use Prim.Native.Nat.{◌+◌, ◌*◌, ◌≤◌}
use mathlib.Core.Path.{◌≡◌}
use lib.ListN.{drop}
use Rattle.machine.specs.Register.{kept_places}
use Rattle.register.specs.Register.{register_of}
use Rattle.register.proofs.kept.Given as goal

abbrev pub invariant-loop-i : goal.invariant-loop-i
invariant-loop-i l = (l.sum ≤ l.i * 31) × (l.sum + kept_places (drop l.i (register_of l.k l.register)) ≡ kept_places (register_of l.k l.register))
