-- `seats::order` meets its contract: it is refused by the memory, or it is the firm's call on its own seat. Assumes nothing.
use Rattle.std.proofs.lemmas.Result.{err_from_is_err_and}
use mathlib.Core.Path.{sym, ◌∙◌}
use native.Mathlib.Omega.{arith}
use Rattle.machine.specs.Calls.{Call}
use Rattle.seats.proofs.Calls.{refused-is, ready-is, own-tested, own-call, order-rooms, order-quiet}
use Rattle.refusals.proofs.Once.{some_number}
use Rattle.seats.proofs.order.Goals as goal

pub returns-in_err-refusal : goal.returns-in_err-refusal
returns-in_err-refusal c =
    let e = err_from_is_err_and c.from_residual.result c.from_residual.ensures.1 in
    let p = refused-is _ _ _ c.in_err-refusal.ensures (some_number _) (Call.order _ _ _) in record { value = rw (e.1, e.2) p.0; m_after = p.1 }

pub overflow_mul-at : goal.overflow_mul-at
overflow_mul-at c = record { fits = omega (arith, (ready-is _ _ (sym c.in_ok-refusal.ensures)).known) }

pub overflow_add-end : goal.overflow_add-end
overflow_add-end c = record { fits = omega (arith, (ready-is _ _ (sym c.in_ok-refusal.ensures)).known) }

pub offset_bounds-m-at : goal.offset_bounds-m-at
offset_bounds-m-at c = record { fits = omega (arith, (ready-is _ _ (sym c.in_ok-refusal.ensures)).known) }

pub slice_bounds-order-end : goal.slice_bounds-order-end
slice_bounds-order-end c = let r = ready-is _ _ (sym c.in_ok-refusal.ensures) in omega (arith, r.known, r.tests.long)

pub order-requires : goal.order-requires
order-requires c = own-tested _ _ (ready-is _ _ (sym c.in_ok-refusal.ensures))

pub returns : goal.returns
returns c =
    let p = own-call _ _ (sym c.in_ok-refusal.ensures) (Call.order _ _ _)
    (λ room s. order-rooms room s _ _ _) (λ room s. order-quiet room s _ _ _) _ _ c.order.ensures.value c.order.ensures.m_after in record { value = p.0; m_after = p.1 }
