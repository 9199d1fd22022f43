-- `seats::clear_firm` meets its contract: 1, 13, 2, or the firm's seat becomes zeros. Assumes nothing.
use mathlib.Core.Path.{sym, ◌∙◌}
use borrow.Author.Tests.{not-true, not-false}
use Rattle.seats.proofs.Clearing.{clear-short, clear-firm, clear-unsound, clear-done}
use mathlib.Core.Bool.{not}
use mathlib.Core.Path.{ap}
use Rattle.seats.proofs.clear_firm.Goals as goal

pub returns-then-m-lt-SIZE : goal.returns-then-m-lt-SIZE
returns-then-m-lt-SIZE c =
    let p = clear-short _ _ c.if-m-lt-SIZE.true in record { value = p.0; m_after = p.1 }

pub returns-then-firm-gt1 : goal.returns-then-firm-gt1
returns-then-firm-gt1 c =
    let p = clear-firm _ _ c.if-m-lt-SIZE.false c.if-firm-gt1.true in record { value = p.0; m_after = p.1 }

pub returns-then-not-is_sound : goal.returns-then-not-is_sound
returns-then-not-is_sound c =
    let p = clear-unsound _ _ c.if-m-lt-SIZE.false c.if-firm-gt1.false (sym c.is_sound.ensures ∙ not-true _ (ap not c.if-not-is_sound.true)) in record { value = p.0; m_after = p.1 }

pub returns : goal.returns
returns c =
    let p = clear-done _ _ c.if-m-lt-SIZE.false c.if-firm-gt1.false (sym c.is_sound.ensures ∙ not-false _ (ap not c.if-not-is_sound.false)) c.blank.ensures in record { value = p.0; m_after = p.1 }
