-- `daylog::of_four` meets its contract: each of the four entries is looked at where those after it are passed. Assumes nothing.
use Prim.Native.Nat.{◌+◌, ◌*◌, ◌-◌}
use native.Mathlib.Omega.{arith}
use Rattle.daylog.specs.Inner.Reading.{PassesOn}
use Rattle.daylog.proofs.Readings.{passing-none, passing-more, passing-stop, stopped}
use Rattle.daylog.proofs.windows.of_four.Goals.{Else-log-at, Else-log-at-2, Else-log-at-3}
use Rattle.daylog.proofs.windows.of_four.Goals as goal

-- the entries that were looked at are passed
one : (c : Else-log-at) → PassesOn c.args.first c.args.k c.args.log.now 1
one c = passing-more (passing-none c.args.first c.args.k c.args.log.now) c.requires.2.1 c.requires.2.2 (omega (arith, c.requires.0)) {at = (c.args.k - 4) * 2 + 6} (omega (arith, c.requires.0)) (omega (arith, c.if-log-at.false))

two : (c : Else-log-at-2) → PassesOn c.args.first c.args.k c.args.log.now 1 → PassesOn c.args.first c.args.k c.args.log.now 2
two c one-on = passing-more one-on c.requires.2.1 c.requires.2.2 (omega (arith, c.requires.0)) {at = (c.args.k - 4) * 2 + 4} (omega (arith, c.requires.0)) (omega (arith, c.if-log-at-2.false))

three : (c : Else-log-at-3) → PassesOn c.args.first c.args.k c.args.log.now 2 → PassesOn c.args.first c.args.k c.args.log.now 3
three c two-on = passing-more two-on c.requires.2.1 c.requires.2.2 (omega (arith, c.requires.0)) {at = (c.args.k - 4) * 2 + 2} (omega (arith, c.requires.0)) (omega (arith, c.if-log-at-3.false))

pub returns-then-log-at : goal.returns-then-log-at
returns-then-log-at c = stopped (omega arith) (passing-stop (passing-none c.args.first c.args.k c.args.log.now) c.requires.2.1 c.requires.2.2 (omega (arith, c.requires.0)) {at = (c.args.k - 4) * 2 + 6} (omega (arith, c.requires.0)) (omega (arith, c.if-log-at.true)))

pub returns-then-log-at-2 : goal.returns-then-log-at-2
returns-then-log-at-2 c = stopped (omega arith) (passing-stop (one (goal.at.returns-then-log-at-2 c).Else-log-at) c.requires.2.1 c.requires.2.2 (omega (arith, c.requires.0)) {at = (c.args.k - 4) * 2 + 4} (omega (arith, c.requires.0)) (omega (arith, c.if-log-at-2.true)))

pub returns-then-log-at-3 : goal.returns-then-log-at-3
returns-then-log-at-3 c =
    let at = goal.at.returns-then-log-at-3 c in
    stopped (omega arith) (passing-stop (two at.Else-log-at-2 (one at.Else-log-at)) c.requires.2.1 c.requires.2.2 (omega (arith, c.requires.0)) {at = (c.args.k - 4) * 2 + 2} (omega (arith, c.requires.0)) (omega (arith, c.if-log-at-3.true)))

pub returns-then-log-at-4 : goal.returns-then-log-at-4
returns-then-log-at-4 c =
    let at = goal.at.returns-then-log-at-4 c in
    stopped (omega arith) (passing-stop (three at.Else-log-at-3 (two at.Else-log-at-2 (one at.Else-log-at))) c.requires.2.1 c.requires.2.2 (omega (arith, c.requires.0)) {at = (c.args.k - 4) * 2} (omega (arith, c.requires.0)) (omega (arith, c.if-log-at-4.true)))

pub returns : goal.returns
returns c =
    let at = goal.at.returns c in
    record {
      most = omega arith;
      stops = λ less. absurd (omega arith);
      goes = λ _. passing-more (three at.Else-log-at-3 (two at.Else-log-at-2 (one at.Else-log-at))) c.requires.2.1 c.requires.2.2 (omega (arith, c.requires.0)) {at = (c.args.k - 4) * 2} (omega (arith, c.requires.0)) (omega (arith, c.if-log-at-4.false));
    }
