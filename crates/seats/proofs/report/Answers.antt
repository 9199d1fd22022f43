-- `seats::report` meets its contract: refused by the memory, or the firm's own seat, and then the other's. Assumes nothing.
use Rattle.std.proofs.lemmas.Result.{err_from_is_err_and}
use mathlib.Core.Path.{refl, sym, ◌∙◌}
use native.Mathlib.Omega.{arith}
use Rattle.machine.specs.Calls.{Call}
use Rattle.seats.proofs.Calls.{refused-is, ready-is, own-lent}
use Rattle.seats.proofs.Both.{both-answer, both-quiet, both-asked, both_long, both-joined}
use Rattle.refusals.proofs.Once.{some_number}
use Rattle.seats.proofs.report.Goals as goal

pub returns-in_err-refusal : goal.returns-in_err-refusal
returns-in_err-refusal c =
    let e = err_from_is_err_and c.from_residual.result c.from_residual.ensures.1 in
    let p = refused-is _ _ _ c.in_err-refusal.ensures (some_number _) (Call.report _ _ _) in record { value = rw (e.1, e.2) p.0; m_after = p.1 }

pub overflow_mul-at : goal.overflow_mul-at
overflow_mul-at c = record { fits = omega (arith, (ready-is _ _ (sym c.in_ok-refusal.ensures)).known) }

pub overflow_add-end : goal.overflow_add-end
overflow_add-end c = record { fits = omega (arith, (ready-is _ _ (sym c.in_ok-refusal.ensures)).known) }

pub overflow_sub-other : goal.overflow_sub-other
overflow_sub-other c = omega (arith, (ready-is _ _ (sym c.in_ok-refusal.ensures)).known)

pub offset_bounds-m-at : goal.offset_bounds-m-at
offset_bounds-m-at c = record { fits = omega (arith, (ready-is _ _ (sym c.in_ok-refusal.ensures)).known) }

pub slice_bounds-own_report-end : goal.slice_bounds-own_report-end
slice_bounds-own_report-end c = let r = ready-is _ _ (sym c.in_ok-refusal.ensures) in omega (arith, r.known, r.tests.long)

pub own_report-requires : goal.own_report-requires
own_report-requires c = own-lent _ _ (ready-is _ _ (sym c.in_ok-refusal.ensures))

pub slice_bounds-trim_seat-end : goal.slice_bounds-trim_seat-end
slice_bounds-trim_seat-end c = let r = ready-is _ _ (sym c.in_ok-refusal.ensures) in omega (arith, r.known, both_long _ _ r (Call.report _ _ _) refl (c.in_ok-called.ensures _))

pub trim_seat-requires : goal.trim_seat-requires
trim_seat-requires c = both-asked _ _ (ready-is _ _ (sym c.in_ok-refusal.ensures)) (Call.report _ _ _) refl (c.in_ok-called.ensures _)

pub returns-then-called : goal.returns-then-called
returns-then-called c =
    let r = ready-is _ _ (sym c.in_ok-refusal.ensures) in
    let did = c.in_ok-called.ensures _ in record { value = both-answer _ _ r (Call.report _ _ _) refl did; m_after = both-joined _ _ r (Call.report _ _ _) refl did c.if-called.true c.trim_seat.ensures }

pub returns-else-called : goal.returns-else-called
returns-else-called c =
    let r = ready-is _ _ (sym c.in_ok-refusal.ensures) in
    let did = c.in_ok-called.ensures _ in record { value = both-answer _ _ r (Call.report _ _ _) refl did; m_after = both-quiet _ _ r (Call.report _ _ _) refl did c.if-called.false }

pub returns-in_err-called : goal.returns-in_err-called
returns-in_err-called c =
    let e = err_from_is_err_and c.from_residual-in_err-called.result c.from_residual-in_err-called.ensures.1 in
    let r = ready-is _ _ (sym c.in_ok-refusal.ensures) in
    let did = (c.in_err-called.ensures _) in record { value = rw (e.1, e.2) (both-answer _ _ r (Call.report _ _ _) refl did); m_after = both-quiet _ _ r (Call.report _ _ _) refl did refl }
