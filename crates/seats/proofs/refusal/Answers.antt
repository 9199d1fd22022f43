-- `seats::refusal` meets its contract: 1, 13, 4, then 2. Assumes nothing.
use mathlib.Core.Path.{sym, ◌∙◌}
use borrow.Author.Tests.{not-true, not-false}
use Rattle.seats.proofs.Calls.{short-is, firm-is, unarmed-is, unsound-is, sound-is}
use mathlib.Core.Bool.{not}
use mathlib.Core.Path.{ap}
use Rattle.seats.proofs.refusal.Goals as goal

pub returns-then-m-lt-SIZE : goal.returns-then-m-lt-SIZE
returns-then-m-lt-SIZE c = short-is _ _ c.if-m-lt-SIZE.true

pub returns-then-firm-gt1 : goal.returns-then-firm-gt1
returns-then-firm-gt1 c = firm-is _ _ c.if-m-lt-SIZE.false c.if-firm-gt1.true

pub returns-then-m-at-eq0 : goal.returns-then-m-at-eq0
returns-then-m-at-eq0 c = unarmed-is _ _ c.if-m-lt-SIZE.false c.if-firm-gt1.false c.if-m-at-eq0.true

pub returns-then-not-is_sound : goal.returns-then-not-is_sound
returns-then-not-is_sound c = unsound-is _ _ c.if-m-lt-SIZE.false c.if-firm-gt1.false c.if-m-at-eq0.false (sym c.is_sound.ensures ∙ not-true _ (ap not c.if-not-is_sound.true))

pub returns : goal.returns
returns c = sound-is _ _ c.if-m-lt-SIZE.false c.if-firm-gt1.false c.if-m-at-eq0.false (sym c.is_sound.ensures ∙ not-false _ (ap not c.if-not-is_sound.false))
