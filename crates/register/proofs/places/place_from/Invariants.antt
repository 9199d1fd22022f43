-- `register::places::place_from` meets its contract: from place i on decides as from the first place on, one place after the other. Assumes nothing.
use Prim.Native.Nat.{◌+◌}
use mathlib.Core.Path.{◌≡◌}
use lib.ListN.{drop}
use Rattle.register.specs.Register.{register_of, place_of_identity}
use Rattle.register.proofs.places.place_from.Given as goal

abbrev pub invariant-loop-i : goal.invariant-loop-i
invariant-loop-i l = l.i + place_of_identity (drop l.i (register_of l.k l.register)) l.identity ≡ l.from + place_of_identity (drop l.from (register_of l.k l.register)) l.identity
