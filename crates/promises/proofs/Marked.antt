-- Sound memory is marked as armed. Assumes nothing.
use Prim.Native.Nat.{ℕ}
use mathlib.Core.Path.{◌≡◌, sym, ◌∙◌}
use mathlib.Core.Bool.{true}
use mathlib.Core.List.{List}
use lib.ListN.{get_or}
use lib.Dec.{eqb}
use borrow.Author.Tests.{eqb-true}
use Rattle.laws.proofs.Tests.{and_l}
use Rattle.state.specs.Sound.{is_sound}
use Rattle.state.proofs.Exactly.{taken-apart}
use Rattle.state.proofs.Map.{map-test}
use Rattle.calls.specs.Calls.{mark_of}

pub sound-marked : (xs : List ℕ) → is_sound xs ≡ true → mark_of xs ≡ 1
sound-marked xs h = eqb-true (get_or xs 0 0) 1 (and_l (eqb (get_or xs 0 0) 1) _ (sym (map-test xs) ∙ (taken-apart xs h).map))
