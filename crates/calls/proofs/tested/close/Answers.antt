-- `tested::close` meets its contract: it is refused as it meets it, else the clock is set and the order leaves the register. Assumes nothing.
use Rattle.std.proofs.lemmas.Result.{err_from_is_err_and}
use mathlib.Core.Path.{◌≡◌, sym, ◌∙◌, subst}
use mathlib.Core.Bool.{true}
use mathlib.Core.List.{List}
use lib.ListN.{length}
use Prim.Native.Nat.{◌<◌}
use native.Mathlib.Omega.{arith}
use Rattle.machine.specs.Calls.{Call}
use Rattle.machine.specs.Register.{are_different}
use Rattle.machine.specs.declared.Sent.{Sent}
use Rattle.state.proofs.Laid.{laid-orders}
use Rattle.state.proofs.After.{held-laid}
use Rattle.grant.proofs.Steps.{clock-holds}
use Rattle.calls.proofs.Steps.{refused-by}
use Rattle.calls.proofs.Away.{close-laid, close-different, close_at, close-leaves, close-done, register-now}
use Rattle.refusals.proofs.Once.{some_number}
use Rattle.calls.proofs.tested.close.Goals as goal

pub returns-in_err-close_refusal : goal.returns-in_err-close_refusal
returns-in_err-close_refusal c =
    let e = err_from_is_err_and c.from_residual.result c.from_residual.ensures.1 in
    let p = refused-by _ (Call.close _ _) _ c.in_err-close_refusal.ensures (some_number _) in record { value = rw (e.1, e.2) p.0; m_after = p.1 }

pub slice_bounds-find-end : goal.slice_bounds-find-end
slice_bounds-find-end c = omega (arith, (close-laid _ _ _ (sym c.in_ok-close_refusal.ensures)).long)

pub find-i-requires : goal.find-i-requires
find-i-requires c = laid-orders (close-laid _ _ _ (sym c.in_ok-close_refusal.ensures))

pub put_clock-requires : goal.put_clock-requires
put_clock-requires c = close-laid _ _ _ (sym c.in_ok-close_refusal.ensures)

pub slice_bounds-close-end : goal.slice_bounds-close-end
slice_bounds-close-end c = omega (arith, (held-laid (clock-holds (close-laid _ _ _ (sym c.in_ok-close_refusal.ensures)) c.put_clock.ensures)).long)

pub close-requires : goal.close-requires
close-requires c =
    let e = sym c.in_ok-close_refusal.ensures in
    let h = clock-holds (close-laid _ _ _ e) c.put_clock.ensures in
    let now = sym (register-now h) in (
      laid-orders (held-laid h),
      subst (λ (l : List Sent). are_different l ≡ true) now (close-different _ _ _ e),
      subst (λ (l : List Sent). c.find-i.result < length l) now (close_at _ _ _ e c.find-i.ensures),
    )

pub returns : goal.returns
returns c =
    let e = sym c.in_ok-close_refusal.ensures in
    let h = clock-holds (close-laid _ _ _ e) c.put_clock.ensures in
    let p = close-done _ _ _ e (close-leaves _ _ _ e h c.find-i.ensures c.close.ensures) in record { value = p.0; m_after = p.1 }
