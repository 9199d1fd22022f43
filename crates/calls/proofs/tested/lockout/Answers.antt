-- `tested::lockout` meets its contract: it is refused as it meets it, else the mark is set. Assumes nothing.
use Rattle.std.proofs.lemmas.Result.{err_from_is_err_and}
use mathlib.Core.Path.{refl, sym, ◌∙◌}
use Rattle.machine.specs.Calls.{Call}
use Rattle.machine.specs.Judge.{judged, is_refusal}
use Rattle.calls.proofs.Steps.{laid, refused-by, ready_by, accepted-by, lockout-root, acts}
use Rattle.refusals.proofs.Once.{some_number}
use Rattle.calls.proofs.tested.lockout.Goals as goal

pub returns-in_err-lockout_refusal : goal.returns-in_err-lockout_refusal
returns-in_err-lockout_refusal c =
    let e = err_from_is_err_and c.from_residual.result c.from_residual.ensures.1 in
    let p = refused-by _ (Call.lockout _ _ _) _ c.in_err-lockout_refusal.ensures (some_number _) in record { value = rw (e.1, e.2) p.0; m_after = p.1 }

pub lock_out-requires : goal.lock_out-requires
lock_out-requires c = (laid _ (ready_by _ (Call.lockout _ _ _) (sym c.in_ok-lockout_refusal.ensures)), lockout-root _ _ _ _ (sym c.in_ok-lockout_refusal.ensures))

pub returns : goal.returns
unfolding judged is_refusal
returns c =
    let e = (sym c.in_ok-lockout_refusal.ensures) in
    let d = acts _ (ready_by _ (Call.lockout _ _ _) e) (Call.lockout _ _ _) (accepted-by _ (Call.lockout _ _ _) e) refl in record { value = d.0; m_after = c.lock_out.ensures ∙ d.1 }
