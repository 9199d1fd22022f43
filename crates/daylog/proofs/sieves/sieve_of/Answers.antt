-- `daylog::sieve_of` meets its contract: the digits by the case of the scope, the first time by the kind. Assumes nothing.
use Prim.Native.Nat.{◌≤◌, ◌<◌}
use native.Mathlib.Omega.{arith}
use Rattle.daylog.specs.Inner.Sieve.{sieve_in, sieve_of}
use Rattle.daylog.proofs.Sifting.{scope-ok, whole_below, unit-below}
use Rattle.daylog.proofs.sieves.sieve_of.Goals.{In-OneUnit, In-WholeRoot}
use Rattle.daylog.proofs.sieves.sieve_of.Goals as goal

-- a root, and a unit of it, by the case
root-known : (c : In-WholeRoot) → c.in-WholeRoot.root < 64
root-known c =
    let m = c in
    let s = m in
    whole_below (scope-ok s.args.rule s.args.time s.requires) m.in-WholeRoot.is

unit-known : (c : In-OneUnit) → (c.in-OneUnit.root < 64) × (c.in-OneUnit.unit ≤ 3)
unit-known c =
    let m = c in
    let s = m in
    unit-below (scope-ok s.args.rule s.args.time s.requires) m.in-OneUnit.is

pub overflow_mul-result : goal.overflow_mul-result
overflow_mul-result c = omega (arith, root-known c)

pub overflow_add-result : goal.overflow_add-result
overflow_add-result c = omega (arith, root-known c)

pub overflow_mul-result-in-OneUnit : goal.overflow_mul-result-in-OneUnit
overflow_mul-result-in-OneUnit c = omega (arith, unit-known c)

pub overflow_mul-result-in-OneUnit-2 : goal.overflow_mul-result-in-OneUnit-2
overflow_mul-result-in-OneUnit-2 c = omega (arith, unit-known c)

pub overflow_add-result-in-OneUnit : goal.overflow_add-result-in-OneUnit
overflow_add-result-in-OneUnit c = omega (arith, unit-known c)

pub overflow_add-result-in-OneUnit-2 : goal.overflow_add-result-in-OneUnit-2
overflow_add-result-in-OneUnit-2 c = omega (arith, unit-known c)

pub returns-in-EveryFill : goal.returns-in-EveryFill
unfolding sieve_of sieve_in
returns-in-EveryFill c = rw (c.in-EveryFill.is, c.first_time-from.ensures)

pub returns-in-WholeRoot : goal.returns-in-WholeRoot
unfolding sieve_of sieve_in
returns-in-WholeRoot c = let m = c in rw (m.in-WholeRoot.is, m.first_time-from.ensures)

pub returns-in-OneUnit : goal.returns-in-OneUnit
unfolding sieve_of sieve_in
returns-in-OneUnit c = let m = c in rw (m.in-OneUnit.is, m.first_time-from.ensures)
