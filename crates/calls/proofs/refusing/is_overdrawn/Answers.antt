-- `calls::is_overdrawn` meets its contract: both numbers are the order's. Assumes nothing.
use mathlib.Core.Path.{ap, ◌∙◌, subst, sym}
use mathlib.Core.List.{List}
use mathlib.Core.Bool.{◌||◌}
use lib.Dec.{ltb, eqb}
use lib.ListN.{length}
use Prim.Native.Nat.{◌<◌}
use Rattle.machine.specs.declared.Sent.{Sent}
use Rattle.register.specs.Register.{sent_at_place}
use Rattle.state.proofs.Laid.{laid-orders, laid-sent}
use Rattle.calls.proofs.refusing.is_overdrawn.Goals as goal

pub sent_in-sent-requires : goal.sent_in-sent-requires
sent_in-sent-requires c =
    let start = c in
    (laid-orders start.requires.0, subst (λ (l : List Sent). start.args.i < length l) (sym (laid-sent start.requires.0)) start.requires.1)

pub returns : goal.returns
returns c =
    let start = c in
    ap (λ (sent : Sent). ltb sent.contracts.0 start.args.contracts || eqb sent.reports 0)
    (c.sent_in-sent.ensures ∙ ap (λ (l : List Sent). sent_at_place l start.args.i) (laid-sent start.requires.0))
