-- `seats::is_sound` meets its contract: each seat, then both together. Assumes nothing.
use mathlib.Core.Path.{sym, ◌∙◌}
use borrow.Author.Tests.{not-true, not-false}
use Rattle.seats.proofs.Tested.{firm-short, seats-first, seats-second, first-empty, second_empty, two-armed, armed-sound}
use mathlib.Core.Bool.{not}
use mathlib.Core.Path.{ap}
use Rattle.seats.proofs.is_sound.Goals as goal

pub returns-then-m-lt-SIZE : goal.returns-then-m-lt-SIZE
returns-then-m-lt-SIZE c = firm-short _ c.if-m-lt-SIZE.true

pub returns-then-not-is_seat : goal.returns-then-not-is_seat
returns-then-not-is_seat c = seats-first _ c.if-m-lt-SIZE.false (sym c.is_seat.ensures ∙ not-true _ (ap not c.if-not-is_seat.true))

pub returns-then-not-is_seat-2 : goal.returns-then-not-is_seat-2
returns-then-not-is_seat-2 c = seats-second _ c.if-m-lt-SIZE.false (sym c.is_seat.ensures ∙ not-false _ (ap not c.if-not-is_seat.false)) (sym c.is_seat-2.ensures ∙ not-true _ (ap not c.if-not-is_seat-2.true))

pub returns-then-first-eq0 : goal.returns-then-first-eq0
returns-then-first-eq0 c = first-empty _ c.if-m-lt-SIZE.false (sym c.is_seat.ensures ∙ not-false _ (ap not c.if-not-is_seat.false)) (sym c.is_seat-2.ensures ∙ not-false _ (ap not c.if-not-is_seat-2.false)) c.if-first-eq0.true

pub returns-then-second-eq0 : goal.returns-then-second-eq0
returns-then-second-eq0 c = second_empty _ c.if-m-lt-SIZE.false (sym c.is_seat.ensures ∙ not-false _ (ap not c.if-not-is_seat.false)) (sym c.is_seat-2.ensures ∙ not-false _ (ap not c.if-not-is_seat-2.false)) c.if-first-eq0.false c.if-second-eq0.true

pub fit_together-requires : goal.fit_together-requires
fit_together-requires c = (
  armed-sound c.args.m.now 0 (sym c.is_seat.ensures ∙ not-false _ (ap not c.if-not-is_seat.false)) c.if-first-eq0.false,
  armed-sound c.args.m.now 1 (sym c.is_seat-2.ensures ∙ not-false _ (ap not c.if-not-is_seat-2.false)) c.if-second-eq0.false,
)

pub returns : goal.returns
returns c = two-armed _ c.if-m-lt-SIZE.false (sym c.is_seat.ensures ∙ not-false _ (ap not c.if-not-is_seat.false)) (sym c.is_seat-2.ensures ∙ not-false _ (ap not c.if-not-is_seat-2.false)) c.if-first-eq0.false c.if-second-eq0.false c.fit_together.ensures
