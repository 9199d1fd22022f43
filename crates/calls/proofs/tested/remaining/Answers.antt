-- `tested::remaining` meets its contract: it is refused as it meets it, else it reads what is left. Assumes nothing.
use Rattle.std.proofs.lemmas.Result.{err_from_is_err_and}
use mathlib.Core.Path.{refl, sym, ap, ◌∙◌}
use Rattle.machine.specs.Calls.{Call}
use Rattle.rules.specs.Amounts.{number_of}
use Rattle.rules.proofs.Amounts.{number_in}
use Rattle.machine.specs.Judge.{judged, is_refusal}
use Rattle.machine.specs.Answer.{Left}
use Rattle.machine.proofs.Refusals.{askable}
use Rattle.calls.proofs.Steps.{laid, refused-by, ready_by, accepted-by, acts}
use Rattle.calls.proofs.Offers.{in_order}
use Rattle.refusals.proofs.Once.{some_number}
use Rattle.calls.proofs.tested.remaining.Goals as goal

pub returns-in_err-remaining_refusal : goal.returns-in_err-remaining_refusal
returns-in_err-remaining_refusal c =
    let e = err_from_is_err_and c.from_residual.result c.from_residual.ensures.1 in rw (e.1, e.2) ((refused-by _ (Call.remaining _ _ _) _ c.in_err-remaining_refusal.ensures (some_number _)).0)

pub left-left-requires : goal.left-left-requires
left-left-requires c =
    let e = (sym c.in_ok-remaining_refusal.ensures) in
    let known = askable _ _ _ _ _ (accepted-by _ (Call.remaining _ _ _) e) in
    (laid _ (ready_by _ (Call.remaining _ _ _) e), known.1.known, known.1.unit_known, in_order _ (ready_by _ (Call.remaining _ _ _) e) _ known.0.after)

pub returns : goal.returns
unfolding judged is_refusal
returns c =
    let e = (sym c.in_ok-remaining_refusal.ensures) in
    ap Left (c.number.ensures ∙ ap number_of c.left-left.ensures ∙ number_in _ _) ∙ (acts _ (ready_by _ (Call.remaining _ _ _) e) (Call.remaining _ _ _) (accepted-by _ (Call.remaining _ _ _) e) refl).0
