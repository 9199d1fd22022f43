-- `profile::root_number` meets its contract: what is left from i on has the name as far as the whole has it. Assumes nothing.
use mathlib.Core.Path.{sym, ◌∙◌}
use native.Mathlib.Omega.{arith}
use Rattle.text.proofs.Lists.{index_on, index-here, index-end}
use Rattle.profile.proofs.root_number.Goals as goal

pub loop-i-init : goal.loop-i-init
loop-i-init c = omega arith

pub returns-then-names-i : goal.returns-then-names-i
returns-then-names-i c = sym (c.loop-i.invariant ∙ index-here _ _ _ c.loop-i-test.true c.if-names-i.true)

pub loop-i-preserved : goal.loop-i-preserved
loop-i-preserved c = c.loop-i.invariant ∙ index_on _ _ _ c.loop-i-test.true c.if-names-i.false

pub returns : goal.returns
returns c = sym (c.loop-i.invariant ∙ index-end _ _ _ c.loop-i-test.false)
