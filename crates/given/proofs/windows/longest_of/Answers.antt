-- `given::longest_of` meets its contract: the greater of what was found and of the windows from rule i on is the longest. Assumes nothing.
use mathlib.Core.Path.{sym, ◌∙◌}
use native.Mathlib.Omega.{arith}
use Rattle.given.proofs.Places.{span-start, span-on, span-end}
use Rattle.given.proofs.windows.longest_of.Goals as goal

pub loop-i-init : goal.loop-i-init
loop-i-init c = span-start _ _

pub loop-i-preserved : goal.loop-i-preserved
loop-i-preserved c =
    c.loop-i.invariant ∙ span-on _ _ _ c.loop-i-test.true _ c.rule_at.ensures _ _ c.window.ensures _ c.max-most.ensures

pub returns : goal.returns
returns c = sym (c.loop-i.invariant ∙ span-end _ _ _ _ c.loop-i-test.false)
