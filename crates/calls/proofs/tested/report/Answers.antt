-- `tested::report` meets its contract: it is refused as it meets it, or came back. Assumes nothing.
use Rattle.std.proofs.lemmas.Result.{err_from_is_err_and}
use Rattle.machine.specs.Calls.{Call}
use Rattle.calls.proofs.Steps.{refused-by}
use Rattle.refusals.proofs.Once.{some_number}
use Rattle.calls.proofs.tested.report.Goals as goal

pub returns-in_err-report_refusal : goal.returns-in_err-report_refusal
returns-in_err-report_refusal c =
    let e = err_from_is_err_and c.from_residual.result c.from_residual.ensures.1 in
    let p = refused-by _ (Call.report _ _ _) _ c.in_err-report_refusal.ensures (some_number _) in record { value = rw (e.1, e.2) p.0; m_after = p.1 }
