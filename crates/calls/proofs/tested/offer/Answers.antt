-- `tested::offer` meets its contract: it is refused as it meets it; a locked-out offer moves the clock alone. Assumes nothing.
use Rattle.std.proofs.lemmas.Result.{err_from_is_err_and}
use mathlib.Core.Path.{◌≡◌, sym, ap, ◌∙◌}
use native.Mathlib.Omega.{arith}
use Rattle.machine.specs.Calls.{Call}
use Rattle.machine.specs.Locks.{verdict_of}
use Rattle.state.specs.State.{decode}
use Rattle.locks.proofs.Laid.{locks-held, locks-are}
use Rattle.calls.specs.Calls.{Met}
use Rattle.calls.proofs.Steps.{refused-by}
use Rattle.calls.proofs.Offers.{offer-refused, offer-met, met-asked, met-low, met-free, locked-out}
use Rattle.calls.proofs.tested.offer.Goals.{After-verdict-verdict, In_ok-offer_refusal}
use Rattle.refusals.proofs.Once.{some_number}
use Rattle.calls.proofs.tested.offer.Goals as goal

-- what the offer has met when it is not refused, and the verdict on it then
met-then : (c : In_ok-offer_refusal) → Met c.args.m.now c.args.o
met-then c = offer-met _ _ (sym c.in_ok-offer_refusal.ensures)

pub returns-in_err-offer_refusal : goal.returns-in_err-offer_refusal
returns-in_err-offer_refusal c =
    let e = err_from_is_err_and c.from_residual.result c.from_residual.ensures.1 in
    let p = refused-by _ (Call.offer c.args.o) _ (offer-refused _ _ _ c.in_err-offer_refusal.ensures (some_number _)) (some_number _) in record { value = rw (e.1, e.2) p.0; m_after = p.1 }

pub slice_bounds-verdict-end : goal.slice_bounds-verdict-end
slice_bounds-verdict-end c = omega (arith, (met-asked _ _ (met-then c)).laid.long)

pub verdict-verdict-requires : goal.verdict-verdict-requires
verdict-verdict-requires c = (locks-held (met-asked _ _ (met-then (goal.at.verdict-verdict-requires c).In_ok-offer_refusal)).laid, met-low _ _ (met-then (goal.at.verdict-verdict-requires c).In_ok-offer_refusal))

verdict-is : (c : After-verdict-verdict) → c.verdict-verdict.result ≡ verdict_of (decode c.args.m.now).part.locks c.args.o.root
verdict-is c = c.verdict-verdict.ensures ∙ ap (λ l. verdict_of l c.args.o.root) (locks-are (met-asked _ _ (met-then c.before.before)).laid)

pub put_clock-requires : goal.put_clock-requires
put_clock-requires c = (met-asked _ _ (met-then (goal.at.put_clock-requires c).In_ok-offer_refusal)).laid

pub returns-then-verdict-ne0 : goal.returns-then-verdict-ne0
returns-then-verdict-ne0 c =
    let d = locked-out _ _ (met-then (goal.at.returns-then-verdict-ne0 c).In_ok-offer_refusal) _ (verdict-is (goal.at.returns-then-verdict-ne0 c).After-verdict-verdict) c.if-verdict-ne0.true in record { value = d.0; m_after = c.put_clock.ensures ∙ d.1 }

pub granted-requires : goal.granted-requires
granted-requires c = met-free _ _ (met-then (goal.at.granted-requires c).In_ok-offer_refusal) (sym (verdict-is (goal.at.granted-requires c).After-verdict-verdict) ∙ c.if-verdict-ne0.false)
