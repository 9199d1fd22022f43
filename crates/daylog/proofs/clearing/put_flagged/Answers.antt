-- `daylog::put_flagged` meets its contract: two digits that are both 0 put nothing, and any others the two numbers one after the other. Assumes nothing.
use Prim.Native.Nat.{◌*◌, ◌%◌}
use mathlib.Core.Path.{◌≡◌, refl}
use native.Mathlib.Numerals.{add-one}
use native.Mathlib.Omega.{arith}
use lib.ListN.{length-set}
use borrow.Author.Tests.{lt-ltb}
use Rattle.daylog.proofs.clearing.put_flagged.Goals as goal

pub returns-then-fill-eq0 : goal.returns-then-fill-eq0
returns-then-fill-eq0 c =
    let none : c.args.fill % 4 ≡ 0 = omega (arith, c.if-fill-eq0.true) in
    rw none (record { value = refl; log_after = refl })

pub bounds-log-at-2 : goal.bounds-log-at-2
bounds-log-at-2 c =
    let start = c in
    omega (arith, length-set start.args.log.now (start.args.i * 2) start.args.fill, start.requires)

pub returns : goal.returns
returns c =
    let some = lt-ltb 0 (c.args.fill % 4) (omega (arith, c.if-fill-eq0.false)) in
    record { value = rw some refl; log_after = rw (some, add-one) refl }
