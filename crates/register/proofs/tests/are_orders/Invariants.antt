-- `register::tests::are_orders` meets its contract: what is left from place i on decides as the whole does. Assumes nothing.
use Prim.Native.Nat.{◌-◌, ◌*◌}
use mathlib.Core.Path.{◌≡◌}
use mathlib.Core.Bool.{◌&&◌}
use lib.ListN.{drop}
use Rattle.tables.specs.Inner.Tables.{places_pass}
use Rattle.packing.specs.Gaps.{is_clear}
use Rattle.register.specs.SentPlace.{is_sent_place}
use Rattle.register.proofs.tests.are_orders.Given as goal

abbrev pub invariant-loop-i : goal.invariant-loop-i
invariant-loop-i l =
    places_pass 2 (is_sent_place l.roots) l.k (drop 1 l.register) ≡ (is_clear l.gaps && places_pass 2 (is_sent_place l.roots) (l.k - l.i) (drop (l.i * 2) (drop 1 l.register)))
