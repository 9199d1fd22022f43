-- `calls::offer_refusal` meets its contract: it is the first number that the memory or the offer's numbers are refused with. Assumes nothing.
use Rattle.std.proofs.lemmas.Result.{err_from_is_err_and}
use mathlib.Core.Path.{sym, ◌∙◌}
use Rattle.calls.proofs.Steps.{laid}
use Rattle.calls.proofs.Timed.{timed-ready}
use Rattle.calls.proofs.Offers.{offer-timed, offer-unknown, offer-priced}
use mathlib.Core.Bool.{not}
use mathlib.Core.Path.{ap}
use Rattle.refusals.proofs.Once.{some_number}
use Rattle.calls.proofs.refusing.offer_refusal.Goals as goal

pub returns-in_err-timed_refusal : goal.returns-in_err-timed_refusal
returns-in_err-timed_refusal c =
    let e = err_from_is_err_and c.from_residual.result c.from_residual.ensures.1 in rw (e.1, e.2) (offer-timed _ c.args.o _ c.in_err-timed_refusal.ensures (some_number _))

pub roots_in-requires : goal.roots_in-requires
roots_in-requires c = laid _ (timed-ready _ _ (sym c.in_ok-timed_refusal.ensures))

pub returns-then-not-o-roots_in : goal.returns-then-not-o-roots_in
returns-then-not-o-roots_in c = offer-unknown _ c.args.o (sym c.in_ok-timed_refusal.ensures) _ c.roots_in.ensures _ c.is_in.ensures (ap not c.if-not-o-roots_in.true)

pub returns-then-not-is_priced : goal.returns-then-not-is_priced
returns-then-not-is_priced c = rw (ap not c.if-not-is_priced.true) at (offer-priced _ c.args.o (sym c.in_ok-timed_refusal.ensures) _ c.roots_in.ensures _ c.is_in.ensures (ap not c.if-not-o-roots_in.false) _ c.is_priced.ensures)

pub returns : goal.returns
returns c = rw (ap not c.if-not-is_priced.false) at (offer-priced _ c.args.o (sym c.in_ok-timed_refusal.ensures) _ c.roots_in.ensures _ c.is_in.ensures (ap not c.if-not-o-roots_in.false) _ c.is_priced.ensures)
