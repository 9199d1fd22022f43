-- `arming::arm_refusal` meets its contract: 1, 13, 3, then 2 beside a marked seat. Assumes nothing.
use mathlib.Core.Path.{sym, ◌∙◌}
use borrow.Author.Tests.{not-true, not-false}
use Rattle.seats.proofs.Armable.{arm-short, arm-firm, arm-armed, arm-alone, arm-unsound, arm-sound}
use mathlib.Core.Bool.{not}
use mathlib.Core.Path.{ap}
use Rattle.seats.proofs.arming.arm_refusal.Goals as goal

pub returns-then-m-lt-SIZE : goal.returns-then-m-lt-SIZE
returns-then-m-lt-SIZE c = arm-short _ _ c.if-m-lt-SIZE.true

pub returns-then-firm-gt1 : goal.returns-then-firm-gt1
returns-then-firm-gt1 c = arm-firm _ _ c.if-m-lt-SIZE.false c.if-firm-gt1.true

pub returns-then-m-at-ne0 : goal.returns-then-m-at-ne0
returns-then-m-at-ne0 c = arm-armed _ _ c.if-m-lt-SIZE.false c.if-firm-gt1.false c.if-m-at-ne0.true

pub returns-then-m-other-eq0 : goal.returns-then-m-other-eq0
returns-then-m-other-eq0 c = arm-alone _ _ c.if-m-lt-SIZE.false c.if-firm-gt1.false c.if-m-at-ne0.false c.if-m-other-eq0.true

pub returns-then-not-is_sound : goal.returns-then-not-is_sound
returns-then-not-is_sound c = arm-unsound _ _ c.if-m-lt-SIZE.false c.if-firm-gt1.false c.if-m-at-ne0.false c.if-m-other-eq0.false (sym c.is_sound.ensures ∙ not-true _ (ap not c.if-not-is_sound.true))

pub returns : goal.returns
returns c = arm-sound _ _ c.if-m-lt-SIZE.false c.if-firm-gt1.false c.if-m-at-ne0.false c.if-m-other-eq0.false (sym c.is_sound.ensures ∙ not-false _ (ap not c.if-not-is_sound.false))
