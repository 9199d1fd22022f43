-- `register::kept` meets its contract: the reports of the first i orders, and those of the orders from place i on. Assumes nothing.
use Prim.Native.Nat.{◌+◌, ◌*◌, ◌≤◌}
use mathlib.Core.Path.{sym, ◌∙◌}
use native.Mathlib.Omega.{arith}
use lib.ListN.{get_or}
use Rattle.register.proofs.SentPlace.{reports-told}
use Rattle.register.proofs.Differing.{keeping-on, keeping-end}
use Rattle.register.proofs.kept.Goals.{After-reports_of-sum}
use Rattle.register.proofs.kept.Goals as goal

-- an order is allowed few reports
few : (c : After-reports_of-sum) → c.reports_of-sum.result ≤ 31
few c = omega (arith, c.reports_of-sum.ensures, reports-told (get_or c.args.register.now (1 + c.loop-i.i * 2) 0))

pub overflow_add-sum : goal.overflow_add-sum
overflow_add-sum c = omega (arith, few (goal.at.overflow_add-sum c).After-reports_of-sum, c.loop-i.invariant.0, c.requires.few)

pub loop-i-preserved : goal.loop-i-preserved
loop-i-preserved c =
    let xs = c.args.register.now in
    let l = c.loop-i in (
      omega (arith, few (goal.at.loop-i-preserved c).After-reports_of-sum, l.invariant.0),
      sym (keeping-on (get_or xs 0 0) xs l.i c.loop-i-test.true c.reports_of-sum.ensures l.sum) ∙ l.invariant.1,
    )

pub returns : goal.returns
returns c =
    let l = c.loop-i in
    let xs = c.args.register.now in
    sym (keeping-end (get_or xs 0 0) xs l.i c.loop-i-test.false l.sum) ∙ l.invariant.1
