-- `tested::sent` meets its contract: the clock is set, and at verdict 0 the order is registered. Assumes nothing.
use mathlib.Core.Path.{sym, ap, ◌∙◌, subst}
use mathlib.Core.List.{List, [], ◌∷◌, ◌++◌}
use lib.ListN.{length}
use Prim.Native.Nat.{◌<◌}
use native.Mathlib.Omega.{arith}
use Rattle.machine.specs.Locks.{verdict_of}
use Rattle.machine.specs.Register.{sent_of}
use Rattle.machine.specs.declared.Sent.{Sent}
use Rattle.locks.proofs.Laid.{locks-held, locks-are}
use Rattle.state.proofs.Laid.{laid-orders}
use Rattle.state.proofs.After.{held-laid}
use Rattle.grant.proofs.Steps.{clock-holds}
use Rattle.calls.proofs.Away.{send-laid, send-low, send-few, send-valid, send-enters, send-passes, register-now, register-on}
use Rattle.calls.proofs.tested.sent.Goals as goal

pub slice_bounds-verdict-end : goal.slice_bounds-verdict-end
slice_bounds-verdict-end c = omega (arith, (send-laid _ c.args.o _ _ c.requires).long)

pub verdict-verdict-requires : goal.verdict-verdict-requires
verdict-verdict-requires c = (locks-held (send-laid _ c.args.o _ _ c.requires), send-low _ c.args.o _ _ c.requires)

pub put_clock-requires : goal.put_clock-requires
put_clock-requires c = send-laid _ c.args.o _ _ c.requires

pub slice_bounds-enter-end : goal.slice_bounds-enter-end
slice_bounds-enter-end c = omega (arith, (held-laid (clock-holds (send-laid _ c.args.o _ _ c.requires) c.put_clock.ensures)).long)

pub enter-requires : goal.enter-requires
unfolding sent_of
enter-requires c =
    let e = c.requires in
    let o = c.args.o in
    let h = clock-holds (send-laid _ o _ _ e) c.put_clock.ensures in
    (laid-orders (held-laid h), subst (λ (l : List Sent). length l < 64) (sym (register-now h)) (send-few _ o _ _ e), send-valid _ o _ _ e)

pub returns-then-verdict-eq0 : goal.returns-then-verdict-eq0
unfolding sent_of
returns-then-verdict-eq0 c =
    let start = c in
    let o = start.args.o in
    let laid = send-laid _ o _ _ start.requires in
    let is = c.verdict-verdict.ensures ∙ ap (λ l. verdict_of l o.root) (locks-are laid) in
    let h = clock-holds laid c.put_clock.ensures in
    let p = send-enters _ o _ _ start.requires _ is c.if-verdict-eq0.true (register-on h (λ (l : List Sent). l ++ (sent_of o start.args.identity start.args.reports ∷ [])) c.enter.ensures) in record { value = p.0; m_after = p.1 }

pub returns-else-verdict-eq0 : goal.returns-else-verdict-eq0
returns-else-verdict-eq0 c =
    let start = c in
    let o = start.args.o in
    let is = c.verdict-verdict.ensures ∙ ap (λ l. verdict_of l o.root) (locks-are (send-laid _ o _ _ start.requires)) in
    let p = send-passes _ o _ _ start.requires _ is c.if-verdict-eq0.false c.put_clock.ensures in record { value = p.0; m_after = p.1 }
