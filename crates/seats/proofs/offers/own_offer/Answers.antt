-- `offers::own_offer` meets its contract: a fault, locked out, or granted. Assumes nothing.
use Rattle.std.proofs.lemmas.Result.{err_from_is_err_and}
use mathlib.Core.Path.{sym, ap, ◌∙◌}
use native.Mathlib.Omega.{arith}
use Rattle.machine.specs.Locks.{verdict_of}
use Rattle.machine.specs.State.{Locks}
use Rattle.locks.proofs.Laid.{locks-held, locks-are}
use Rattle.calls.proofs.Offers.{met-low, met-free}
use Rattle.seats.proofs.Tested.{long_of, laid_of}
use Rattle.seats.proofs.Granting.{fault-done, met, locked-done}
use Rattle.refusals.proofs.Once.{some_number}
use Rattle.seats.proofs.offers.own_offer.Goals as goal

pub returns-in_err-offer_fault : goal.returns-in_err-offer_fault
returns-in_err-offer_fault c =
    let e = err_from_is_err_and c.from_residual.result c.from_residual.ensures.1 in rw (e.1, e.2) (fault-done _ _ c.requires.0 _ _ c.in_err-offer_fault.ensures (some_number _))

pub slice_bounds-verdict-end : goal.slice_bounds-verdict-end
slice_bounds-verdict-end c = omega (arith, long_of _ c.requires.0)

pub verdict-verdict-requires : goal.verdict-verdict-requires
verdict-verdict-requires c =
    let start = c in
    (locks-held (laid_of _ start.requires.0), met-low _ _ (met _ start.args.o start.requires.0 (sym c.in_ok-offer_fault.ensures)))

pub put_clock-requires : goal.put_clock-requires
put_clock-requires c = laid_of _ c.requires.0

pub returns-then-verdict-ne0 : goal.returns-then-verdict-ne0
returns-then-verdict-ne0 c =
    let start = c in
    locked-done _ _ start.requires.0 (sym c.in_ok-offer_fault.ensures) start.args.room _
    (c.verdict-verdict.ensures ∙ ap (λ (l : Locks). verdict_of l start.args.o.root) (locks-are (laid_of _ start.requires.0))) c.if-verdict-ne0.true c.put_clock.ensures

pub granted-requires : goal.granted-requires
granted-requires c =
    let start = c in
    let none = sym c.in_ok-offer_fault.ensures in
    let v = c.verdict-verdict.ensures ∙ ap (λ (l : Locks). verdict_of l start.args.o.root) (locks-are (laid_of _ start.requires.0)) in
    (met-free _ _ (met _ start.args.o start.requires.0 none) (sym v ∙ c.if-verdict-ne0.false), start.requires.1)
