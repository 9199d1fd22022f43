-- `seats::remaining` meets its contract: it is refused by the memory, or it is the firm's call on its own seat. Assumes nothing.
use Rattle.std.proofs.lemmas.Result.{err_from_is_err_and}
use mathlib.Core.Path.{refl, sym, ◌∙◌}
use native.Mathlib.Omega.{arith}
use Rattle.machine.specs.Calls.{Call}
use Rattle.seats.proofs.Calls.{refused-is, ready-is, own-tested, own-call, remaining-rooms, remaining-quiet}
use Rattle.refusals.proofs.Once.{some_number}
use Rattle.seats.proofs.remaining.Goals as goal

pub returns-in_err-refusal : goal.returns-in_err-refusal
returns-in_err-refusal c =
    let e = err_from_is_err_and c.from_residual.result c.from_residual.ensures.1 in rw (e.1, e.2) ((refused-is _ _ _ c.in_err-refusal.ensures (some_number _) (Call.remaining _ _ _)).0)

pub overflow_mul-at : goal.overflow_mul-at
overflow_mul-at c = record { fits = omega (arith, (ready-is _ _ (sym c.in_ok-refusal.ensures)).known) }

pub overflow_add-end : goal.overflow_add-end
overflow_add-end c = record { fits = omega (arith, (ready-is _ _ (sym c.in_ok-refusal.ensures)).known) }

pub offset_bounds-m-at : goal.offset_bounds-m-at
offset_bounds-m-at c = record { fits = omega (arith, (ready-is _ _ (sym c.in_ok-refusal.ensures)).known) }

pub slice_bounds-remaining-end : goal.slice_bounds-remaining-end
slice_bounds-remaining-end c = let r = ready-is _ _ (sym c.in_ok-refusal.ensures) in omega (arith, r.known, r.tests.long)

pub remaining-requires : goal.remaining-requires
remaining-requires c = own-tested _ _ (ready-is _ _ (sym c.in_ok-refusal.ensures))

pub returns : goal.returns
returns c =
    (own-call _ _ (sym c.in_ok-refusal.ensures) (Call.remaining _ _ _)
    (λ room s. remaining-rooms room s _ _ _) (λ room s. remaining-quiet room s _ _ _) _ _ c.remaining.ensures refl).0
