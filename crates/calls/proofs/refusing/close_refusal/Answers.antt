-- `calls::close_refusal` meets its contract: it is the first number that the memory or the machine refuses with. Assumes nothing.
use Rattle.std.proofs.lemmas.Result.{err_from_is_err_and}
use mathlib.Core.Path.{refl, sym, ap, ◌∙◌}
use mathlib.Core.Bool.{true, false, not}
use Rattle.calls.proofs.Steps.{laid}
use Rattle.calls.proofs.Timed.{timed-ready}
use Rattle.calls.proofs.AwayTests.{close-timed, close-is}
use Rattle.refusals.proofs.Once.{some_number}
use Rattle.calls.proofs.refusing.close_refusal.Goals as goal

pub returns-in_err-timed_refusal : goal.returns-in_err-timed_refusal
returns-in_err-timed_refusal c =
    let e = err_from_is_err_and c.from_residual.result c.from_residual.ensures.1 in rw (e.1, e.2) (close-timed _ _ _ _ c.in_err-timed_refusal.ensures (some_number _))

pub returns-then-not-is_in : goal.returns-then-not-is_in
returns-then-not-is_in c = close-is _ _ _ (sym c.in_ok-timed_refusal.ensures) true _ (sym (ap not c.is_in.ensures) ∙ (ap not c.if-not-is_in.true)) refl

pub is_open-requires : goal.is_open-requires
is_open-requires c = laid _ (timed-ready _ _ (sym c.in_ok-timed_refusal.ensures))

pub returns-then-not-is_open : goal.returns-then-not-is_open
returns-then-not-is_open c = close-is _ _ _ (sym c.in_ok-timed_refusal.ensures) false true (sym (ap not c.is_in.ensures) ∙ (ap not c.if-not-is_in.false)) (sym (ap not c.is_open.ensures) ∙ (ap not c.if-not-is_open.true))

pub returns : goal.returns
returns c = close-is _ _ _ (sym c.in_ok-timed_refusal.ensures) false false (sym (ap not c.is_in.ensures) ∙ (ap not c.if-not-is_in.false)) (sym (ap not c.is_open.ensures) ∙ (ap not c.if-not-is_open.false))
