-- `daylog::unflag_places` meets its contract: what came of the first i entries stands in front, the others as they were, and at the end the places after those that stay are set to 0. Assumes nothing.
use native.Mathlib.Omega.{arith}
use Rattle.daylog.proofs.Turns.{turned_none}
use Rattle.daylog.proofs.Unflagging.{unflag-turn, unflag-done}
use borrow.Author.Rules.{rules}
use Rattle.daylog.proofs.clearing.unflag_places.Goals as goal

pub loop-i-init : goal.loop-i-init
loop-i-init c = (search rules, c.requires.size, turned_none _ c.requires)

pub loop-i-preserved : goal.loop-i-preserved
loop-i-preserved c =
    let at-put = c in
    let at_clear = at-put in
    let at_test = at_clear in
    let at-loop = at_test in
    let l = at-loop.loop-i in
    let held = at-loop.requires in
    (omega arith, search rules, unflag-turn _ held l.invariant.2 at_test.loop-i-test.true l.invariant.1 at_clear.cleared-fill.ensures at-put.put_flagged-kept.ensures.value at-put.put_flagged-kept.ensures.log_after)

pub returns : goal.returns
returns c =
    let at-blank = c in
    let at_test = at-blank in
    let at-loop = at_test in
    let l = at-loop.loop-i in
    unflag-done _ at-loop.requires l.invariant.2 (omega (arith, l.invariant.0, at_test.loop-i-test.false)) at-blank.blank.ensures
