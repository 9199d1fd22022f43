-- `tested::order` meets its contract: it is refused as it meets it, else the reset is stored and the verdict read. Assumes nothing.
use Rattle.std.proofs.lemmas.Result.{err_from_is_err_and}
use mathlib.Core.Path.{refl, sym, ap, ◌∙◌}
use mathlib.Core.Bool.{false}
use native.Mathlib.Omega.{arith}
use Rattle.machine.specs.Calls.{Call}
use Rattle.machine.specs.Locks.{verdict_of}
use Rattle.machine.specs.Judge.{judged, ordered, is_refusal}
use Rattle.machine.specs.Step.{after, part_after}
use Rattle.machine.specs.Answer.{Judged}
use Rattle.machine.specs.State.{State}
use Rattle.locks.proofs.Laid.{locks-held, locks-are}
use Rattle.calls.proofs.Steps.{laid, flagged, refused-by, ready_by, accepted-by, order-low, order-laid, order-decoded, acts}
use Rattle.refusals.proofs.Once.{some_number}
use Rattle.calls.proofs.tested.order.Goals as goal

pub returns-in_err-order_refusal : goal.returns-in_err-order_refusal
returns-in_err-order_refusal c =
    let e = err_from_is_err_and c.from_residual.result c.from_residual.ensures.1 in
    let p = refused-by _ (Call.order _ _ _) _ c.in_err-order_refusal.ensures (some_number _) in record { value = rw (e.1, e.2) p.0; m_after = p.1 }

pub reset_state-requires : goal.reset_state-requires
reset_state-requires c =
    let e = sym c.in_ok-order_refusal.ensures in
    let ready = ready_by _ (Call.order _ _ _) e in
    (laid _ ready, order-low _ _ _ _ e, flagged _ ready)

pub slice_bounds-verdict-end : goal.slice_bounds-verdict-end
slice_bounds-verdict-end c = omega (arith, (order-laid _ _ _ _ (sym c.in_ok-order_refusal.ensures) c.reset_state.ensures).long)

pub verdict-verdict-requires : goal.verdict-verdict-requires
verdict-verdict-requires c = (locks-held (order-laid _ _ _ _ (sym c.in_ok-order_refusal.ensures) c.reset_state.ensures), order-low _ _ _ _ (sym c.in_ok-order_refusal.ensures))

pub returns : goal.returns
unfolding judged ordered is_refusal after part_after
returns c =
    let start = c in
    let e = (sym c.in_ok-order_refusal.ensures) in
    let d = acts _ (ready_by _ (Call.order _ _ _) e) (Call.order _ _ _) (accepted-by _ (Call.order _ _ _) e) refl in
    let is = c.reset_state.ensures in
    let v =
    c.verdict-verdict.ensures ∙ ap (λ l. verdict_of l start.args.root) (locks-are (order-laid _ _ _ _ e is) ∙ ap (λ (s : State). s.part.locks) (order-decoded _ _ _ _ e is)) in record { value = ap (λ n. Judged n 0 false false) v ∙ d.0; m_after = is ∙ d.1 }
