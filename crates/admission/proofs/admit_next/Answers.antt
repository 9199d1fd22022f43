-- `admission::admit_next` meets its contract: it is a firm rule, one of a whole root or one of a unit. Assumes nothing.
use Prim.Native.Nat.{◌<◌}
use mathlib.Core.Path.{refl}
use native.Mathlib.Omega.{arith}
use Rattle.admission.specs.Inner.Counting.{RootIs}
use Rattle.admission.proofs.Levels.{unit-known, whole-share, unit-share}
use Rattle.admission.proofs.Joining.{firm-full, firm-joins}
use Rattle.admission.proofs.admit_next.Goals.{In-OneUnit}
use Rattle.admission.proofs.admit_next.Goals as goal

pub returns-then-tally-ge10 : goal.returns-then-tally-ge10
returns-then-tally-ge10 c = λ before held. firm-full held _ c.in-EveryFill.is c.if-tally-ge10.true

pub admit_root-requires : goal.admit_root-requires
unfolding RootIs
admit_root-requires c =
    (c.requires.0, c.requires.1, c.requires.2, rw c.in-WholeRoot.is refl, rw c.in-WholeRoot.is (whole-share _ _ refl))

-- the unit is one of four
low : (c : In-OneUnit) → c.in-OneUnit.unit < 4
low c =
    let numbered = c.requires.2 in
    unit-known numbered.0 _ _ (rw c.in-OneUnit.is at numbered.1)

pub overflow_mul-unit : goal.overflow_mul-unit
overflow_mul-unit c = omega (arith, low c)

pub overflow_shl-unit : goal.overflow_shl-unit
overflow_shl-unit c = omega (arith, low c)

pub admit_root-requires-in-OneUnit : goal.admit_root-requires-in-OneUnit
unfolding RootIs
admit_root-requires-in-OneUnit c =
    (c.requires.0, c.requires.1, c.requires.2, rw c.in-OneUnit.is refl, rw c.in-OneUnit.is (unit-share _ _ _ refl (low (goal.at.admit_root-requires-in-OneUnit c).In-OneUnit)))

pub returns-else-tally-ge10 : goal.returns-else-tally-ge10
returns-else-tally-ge10 c =
    λ before held. firm-joins held _ c.in-EveryFill.is c.requires.1 c.if-tally-ge10.false
