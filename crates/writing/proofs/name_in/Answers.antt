-- `output::name_in` meets its contract: a scope by its case, and a root that is known stands in the table. Assumes nothing.
use Prim.Native.Nat.{◌<◌}
use lib.ListN.{length}
use native.Mathlib.Omega.{arith}
use Rattle.writing.specs.Inner.Parts.{names_of}
use Rattle.writing.proofs.Tables.{names-few, whole-known, unit-known, none_named, whole-named, unit-named}
use Rattle.writing.proofs.name_in.Goals.{In-OneUnit, In-WholeRoot}
use Rattle.writing.proofs.name_in.Goals as goal

-- the root of each case is known
whole : (c : In-WholeRoot) → c.in-WholeRoot.root < length (names_of c.args.roots.now)
whole c = whole-known c.args.roots.now (rw c.in-WholeRoot.is at c.requires)

unit : (c : In-OneUnit) → c.in-OneUnit.root < length (names_of c.args.roots.now)
unit c = unit-known c.args.roots.now (rw c.in-OneUnit.is at c.requires)

pub overflow_add-result : goal.overflow_add-result
overflow_add-result c = omega (arith, names-few c.args.roots.now c.in-WholeRoot.root (whole c))

pub offset_bounds-roots-root : goal.offset_bounds-roots-root
offset_bounds-roots-root c = omega (arith, names-few c.args.roots.now c.in-WholeRoot.root (whole c))

pub bounds-roots-root : goal.bounds-roots-root
bounds-roots-root c =
    omega (arith, names-few c.args.roots.now c.in-WholeRoot.root (whole (goal.at.bounds-roots-root c).In-WholeRoot), c.requires.long)

pub overflow_add-result-in-OneUnit : goal.overflow_add-result-in-OneUnit
overflow_add-result-in-OneUnit c = omega (arith, names-few c.args.roots.now c.in-OneUnit.root (unit c))

pub offset_bounds-roots-root-in-OneUnit : goal.offset_bounds-roots-root-in-OneUnit
offset_bounds-roots-root-in-OneUnit c = omega (arith, names-few c.args.roots.now c.in-OneUnit.root (unit c))

pub bounds-roots-root-in-OneUnit : goal.bounds-roots-root-in-OneUnit
bounds-roots-root-in-OneUnit c =
    omega (arith, names-few c.args.roots.now c.in-OneUnit.root (unit (goal.at.bounds-roots-root-in-OneUnit c).In-OneUnit), c.requires.long)

pub returns-in-EveryFill : goal.returns-in-EveryFill
returns-in-EveryFill c = rw c.in-EveryFill.is (none_named c.args.roots.now)

pub returns-in-WholeRoot : goal.returns-in-WholeRoot
returns-in-WholeRoot c = rw c.in-WholeRoot.is (whole-named c.args.roots.now c.in-WholeRoot.root (whole (goal.at.returns-in-WholeRoot c).In-WholeRoot))

pub returns-in-OneUnit : goal.returns-in-OneUnit
returns-in-OneUnit c = rw c.in-OneUnit.is (unit-named c.args.roots.now c.in-OneUnit.root c.in-OneUnit.field-1 (unit (goal.at.returns-in-OneUnit c).In-OneUnit))
