-- `calls::order_refusal` meets its contract: it is the first number that the memory or the machine refuses with. Assumes nothing.
use Rattle.std.proofs.lemmas.Result.{err_from_is_err_and}
use mathlib.Core.Path.{sym, ◌∙◌}
use mathlib.Core.Bool.{true, false}
use Rattle.calls.proofs.Steps.{laid}
use Rattle.calls.proofs.Timed.{timed-ready, order-timed, order-known}
use mathlib.Core.Bool.{not}
use mathlib.Core.Path.{ap}
use Rattle.refusals.proofs.Once.{some_number}
use Rattle.calls.proofs.refusing.order_refusal.Goals as goal

pub returns-in_err-timed_refusal : goal.returns-in_err-timed_refusal
returns-in_err-timed_refusal c =
    let e = err_from_is_err_and c.from_residual.result c.from_residual.ensures.1 in rw (e.1, e.2) (order-timed _ _ _ _ _ c.in_err-timed_refusal.ensures (some_number _))

pub roots_in-requires : goal.roots_in-requires
roots_in-requires c = laid _ (timed-ready _ _ (sym c.in_ok-timed_refusal.ensures))

pub returns-then-not-root-roots_in : goal.returns-then-not-root-roots_in
returns-then-not-root-roots_in c = order-known _ _ _ _ (sym c.in_ok-timed_refusal.ensures) _ c.roots_in.ensures true (ap not c.if-not-root-roots_in.true)

pub returns : goal.returns
returns c = order-known _ _ _ _ (sym c.in_ok-timed_refusal.ensures) _ c.roots_in.ensures false (ap not c.if-not-root-roots_in.false)
