-- `calls::report_refusal` meets its contract: it is the first number that the memory or the machine refuses with. Assumes nothing.
use Rattle.std.proofs.lemmas.Result.{err_from_is_err_and}
use mathlib.Core.Path.{refl, sym, ap, ◌∙◌}
use mathlib.Core.Bool.{true, false, not}
use native.Mathlib.Omega.{arith}
use Rattle.state.proofs.Laid.{laid-orders}
use Rattle.calls.proofs.Steps.{laid}
use Rattle.calls.proofs.Timed.{timed-ready}
use Rattle.calls.proofs.AwayTests.{found-sent, found_none, found-one, report-timed, report-drawn, report-is}
use Rattle.refusals.proofs.Once.{some_number}
use Rattle.calls.proofs.refusing.report_refusal.Goals as goal

pub returns-in_err-timed_refusal : goal.returns-in_err-timed_refusal
returns-in_err-timed_refusal c =
    let e = err_from_is_err_and c.from_residual.result c.from_residual.ensures.1 in rw (e.1, e.2) (report-timed _ _ _ _ _ c.in_err-timed_refusal.ensures (some_number _))

pub returns-then-not-is_in : goal.returns-then-not-is_in
returns-then-not-is_in c = report-is _ _ _ _ (sym c.in_ok-timed_refusal.ensures) true _ _ _ (sym (ap not c.is_in.ensures) ∙ (ap not c.if-not-is_in.true)) refl refl refl

pub returns-then-not-is_offer : goal.returns-then-not-is_offer
returns-then-not-is_offer c = report-is _ _ _ _ (sym c.in_ok-timed_refusal.ensures) false true _ _ (sym (ap not c.is_in.ensures) ∙ (ap not c.if-not-is_in.false)) (sym (ap not c.is_offer.ensures) ∙ (ap not c.if-not-is_offer.true)) refl refl

pub slice_bounds-find-end : goal.slice_bounds-find-end
slice_bounds-find-end c = omega (arith, (laid _ (timed-ready _ _ (sym c.in_ok-timed_refusal.ensures))).long)

pub find-i-requires : goal.find-i-requires
find-i-requires c = laid-orders (laid _ (timed-ready _ _ (sym c.in_ok-timed_refusal.ensures)))

pub orders_in-requires : goal.orders_in-requires
orders_in-requires c = laid _ (timed-ready _ _ (sym c.in_ok-timed_refusal.ensures))

pub returns-then-orders_in-i : goal.returns-then-orders_in-i
returns-then-orders_in-i c =
    let e = sym c.in_ok-timed_refusal.ensures in
    let none = found_none _ (laid _ (timed-ready _ _ e)) _ c.find-i.ensures c.orders_in.ensures c.if-orders_in-i.true in
    report-is _ _ _ _ e false false true _ (sym (ap not c.is_in.ensures) ∙ (ap not c.if-not-is_in.false)) (sym (ap not c.is_offer.ensures) ∙ (ap not c.if-not-is_offer.false)) none refl

pub is_overdrawn-requires : goal.is_overdrawn-requires
is_overdrawn-requires c = (laid _ (timed-ready _ _ (sym c.in_ok-timed_refusal.ensures)), omega (arith, c.orders_in.ensures, c.if-orders_in-i.false))

pub returns-then-is_overdrawn : goal.returns-then-is_overdrawn
returns-then-is_overdrawn c =
    let e = sym c.in_ok-timed_refusal.ensures in
    let h = laid _ (timed-ready _ _ e) in
    let one = found-one _ h _ c.find-i.ensures c.orders_in.ensures c.if-orders_in-i.false in
    let drawn = report-drawn _ _ _ _ (found-sent _ h _ c.find-i.ensures c.orders_in.ensures) true (sym c.is_overdrawn.ensures ∙ c.if-is_overdrawn.true) in
    report-is _ _ _ _ e false false false true (sym (ap not c.is_in.ensures) ∙ (ap not c.if-not-is_in.false)) (sym (ap not c.is_offer.ensures) ∙ (ap not c.if-not-is_offer.false)) one drawn

pub returns : goal.returns
returns c =
    let e = sym c.in_ok-timed_refusal.ensures in
    let h = laid _ (timed-ready _ _ e) in
    let one = found-one _ h _ c.find-i.ensures c.orders_in.ensures c.if-orders_in-i.false in
    let drawn = report-drawn _ _ _ _ (found-sent _ h _ c.find-i.ensures c.orders_in.ensures) false (sym c.is_overdrawn.ensures ∙ c.if-is_overdrawn.false) in
    report-is _ _ _ _ e false false false false (sym (ap not c.is_in.ensures) ∙ (ap not c.if-not-is_in.false)) (sym (ap not c.is_offer.ensures) ∙ (ap not c.if-not-is_offer.false)) one drawn
