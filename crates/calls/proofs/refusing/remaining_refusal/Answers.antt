-- `calls::remaining_refusal` meets its contract: it is the first number that the memory or the machine refuses with. Assumes nothing.
use Rattle.std.proofs.lemmas.Result.{err_from_is_err_and}
use mathlib.Core.Path.{sym, ◌∙◌}
use mathlib.Core.Bool.{true, false}
use Rattle.calls.proofs.Steps.{laid}
use Rattle.calls.proofs.Timed.{timed-ready, remaining-timed, remaining-known}
use mathlib.Core.Bool.{not}
use mathlib.Core.Path.{ap}
use Rattle.refusals.proofs.Once.{some_number}
use Rattle.calls.proofs.refusing.remaining_refusal.Goals as goal

pub returns-in_err-timed_refusal : goal.returns-in_err-timed_refusal
returns-in_err-timed_refusal c =
    let e = err_from_is_err_and c.from_residual.result c.from_residual.ensures.1 in rw (e.1, e.2) (remaining-timed _ _ _ _ _ c.in_err-timed_refusal.ensures (some_number _))

pub is_cell-requires : goal.is_cell-requires
is_cell-requires c = laid _ (timed-ready _ _ (sym c.in_ok-timed_refusal.ensures))

pub returns-then-not-is_cell : goal.returns-then-not-is_cell
returns-then-not-is_cell c = remaining-known _ _ _ _ (sym c.in_ok-timed_refusal.ensures) _ c.is_cell.ensures true (ap not c.if-not-is_cell.true)

pub returns : goal.returns
returns c = remaining-known _ _ _ _ (sym c.in_ok-timed_refusal.ensures) _ c.is_cell.ensures false (ap not c.if-not-is_cell.false)
