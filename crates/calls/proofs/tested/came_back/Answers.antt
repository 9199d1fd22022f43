-- `tested::came_back` meets its contract: it is filled as one of the order that was found. Assumes nothing.
use mathlib.Core.Path.{sym, subst}
use mathlib.Core.List.{List}
use lib.ListN.{length}
use Prim.Native.Nat.{◌<◌}
use native.Mathlib.Omega.{arith}
use Rattle.machine.specs.declared.Sent.{Sent}
use Rattle.state.proofs.Laid.{laid-orders, laid-sent}
use Rattle.calls.proofs.Away.{report-laid, report-at, report-ready, report-done}
use Rattle.calls.proofs.tested.came_back.Goals as goal

pub slice_bounds-find-end : goal.slice_bounds-find-end
slice_bounds-find-end c = omega (arith, (report-laid _ _ _ _ c.requires).long)

pub find-i-requires : goal.find-i-requires
find-i-requires c = laid-orders (report-laid _ _ _ _ c.requires)

pub slice_bounds-sent_in-end : goal.slice_bounds-sent_in-end
slice_bounds-sent_in-end c = omega (arith, (report-laid _ _ _ _ c.requires).long)

pub sent_in-sent-requires : goal.sent_in-sent-requires
sent_in-sent-requires c =
    let h = report-laid _ _ _ _ c.requires in
    (laid-orders h, subst (λ (l : List Sent). c.find-i.result < length l) (sym (laid-sent h)) (report-at _ _ _ _ c.requires c.find-i.ensures))

pub come_back-trips-requires : goal.come_back-trips-requires
come_back-trips-requires c = report-ready _ _ _ _ c.requires c.find-i.ensures c.sent_in-sent.ensures

pub returns : goal.returns
returns c =
    let p = report-done _ _ _ _ c.requires c.find-i.ensures c.sent_in-sent.ensures c.come_back-trips.ensures in record { value = p.0; m_after = p.1 }
