-- `calls::arm` meets its contract: nothing is written before the whole text is accepted. Assumes nothing.
use mathlib.Core.Path.{◌∙◌}
use Rattle.std.proofs.lemmas.Result.{err_from_is_err_and}
use Rattle.profile.proofs.Beside.{scan-none}
use Rattle.calls.proofs.Cases.{arm-short, arm-marked, arm-refused, arm-accepted}
use Rattle.calls.proofs.arm.Goals as goal

pub returns-then-m-lt-SIZE : goal.returns-then-m-lt-SIZE
returns-then-m-lt-SIZE c =
    let p = arm-short _ _ c.if-m-lt-SIZE.true in record { value = rw c.from.ensures p.0; m_after = p.1 }

pub returns-then-m-ne0 : goal.returns-then-m-ne0
returns-then-m-ne0 c =
    let p = arm-marked _ _ c.if-m-lt-SIZE.false c.if-m-ne0.true in record { value = rw c.from-then-m-ne0.ensures p.0; m_after = p.1 }

pub returns-in_err-armed : goal.returns-in_err-armed
returns-in_err-armed c =
    let q = err_from_is_err_and c.from_residual.result c.from_residual.ensures.1 in
    let p = arm-refused _ _ c.if-m-lt-SIZE.false c.if-m-ne0.false _ (c.read-scan.ensures ∙ scan-none _) _ c.in_err-armed.was in
    record { value = rw (q.1, q.2) p.0; m_after = p.1 }

pub returns : goal.returns
returns c =
    let d = arm-accepted _ _ c.if-m-lt-SIZE.false c.if-m-ne0.false _ (c.read-scan.ensures ∙ scan-none _) _ c.in_ok-armed.was in record { value = d.0; m_after = c.write_armed.ensures ∙ d.1 }
