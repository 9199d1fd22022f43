-- `sends::own_report` meets its contract: refused, or filled; its entry joins where there is a rate rule. Assumes nothing.
use Rattle.std.proofs.lemmas.Result.{err_from_is_err_and}
use mathlib.Core.Path.{sym, ◌∙◌}
use Rattle.seats.proofs.Tested.{laid_of}
use Rattle.seats.proofs.Granting.{ready_of}
use Rattle.seats.proofs.Sending.{report-refused, report-done}
use Rattle.refusals.proofs.Once.{some_number}
use Rattle.seats.proofs.sends.own_report.Goals as goal

pub report_refusal-requires : goal.report_refusal-requires
report_refusal-requires c = ready_of _ c.requires

pub returns-in_err-report_refusal : goal.returns-in_err-report_refusal
returns-in_err-report_refusal c =
    let e = err_from_is_err_and c.from_residual.result c.from_residual.ensures.1 in rw (e.1, e.2) (report-refused _ c.requires _ _ _ _ c.in_err-report_refusal.ensures (some_number _))

pub longest_window-joined-requires : goal.longest_window-joined-requires
longest_window-joined-requires c = laid_of _ c.requires

pub returns : goal.returns
returns c = report-done _ c.requires _ _ _ (sym c.in_ok-report_refusal.ensures) c.longest_window-joined.ensures c.came_back-accepted.ensures.value c.came_back-accepted.ensures.m_after
