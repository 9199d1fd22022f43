-- `seats::send` meets its contract: refused by the memory, or the firm's own seat with the room that the other leaves. Assumes nothing.
use Rattle.std.proofs.lemmas.Result.{err_from_is_err_and}
use mathlib.Core.Path.{refl, sym, ◌∙◌}
use native.Mathlib.Omega.{arith}
use Rattle.machine.specs.Calls.{Call}
use Rattle.seats.proofs.Calls.{refused-is, ready-is, own-lent}
use Rattle.seats.proofs.Both.{other-lent, room_most, both-answer, both-quiet}
use Rattle.refusals.proofs.Once.{some_number}
use Rattle.seats.proofs.send.Goals as goal

pub returns-in_err-refusal : goal.returns-in_err-refusal
returns-in_err-refusal c =
    let e = err_from_is_err_and c.from_residual.result c.from_residual.ensures.1 in
    let p = refused-is _ _ _ c.in_err-refusal.ensures (some_number _) (Call.send c.args.o _ _) in record { value = rw (e.1, e.2) p.0; m_after = p.1 }

pub overflow_mul-at : goal.overflow_mul-at
overflow_mul-at c = record { fits = omega (arith, (ready-is _ _ (sym c.in_ok-refusal.ensures)).known) }

pub overflow_add-end : goal.overflow_add-end
overflow_add-end c = record { fits = omega (arith, (ready-is _ _ (sym c.in_ok-refusal.ensures)).known) }

pub overflow_sub-other : goal.overflow_sub-other
overflow_sub-other c = omega (arith, (ready-is _ _ (sym c.in_ok-refusal.ensures)).known)

pub slice_bounds-room_beside-end : goal.slice_bounds-room_beside-end
slice_bounds-room_beside-end c = let r = ready-is _ _ (sym c.in_ok-refusal.ensures) in omega (arith, r.known, r.tests.long)

pub room_beside-room-requires : goal.room_beside-room-requires
room_beside-room-requires c = other-lent _ _ (ready-is _ _ (sym c.in_ok-refusal.ensures))

pub offset_bounds-m-at : goal.offset_bounds-m-at
offset_bounds-m-at c = record { fits = omega (arith, (ready-is _ _ (sym c.in_ok-refusal.ensures)).known) }

pub slice_bounds-own_send-end : goal.slice_bounds-own_send-end
slice_bounds-own_send-end c = let r = ready-is _ _ (sym c.in_ok-refusal.ensures) in omega (arith, r.known, r.tests.long)

pub own_send-requires : goal.own_send-requires
own_send-requires c = (own-lent _ _ (ready-is _ _ (sym c.in_ok-refusal.ensures)), room_most _ c.room_beside-room.ensures)

pub returns : goal.returns
returns c =
    let r = ready-is _ _ (sym c.in_ok-refusal.ensures) in
    let room = c.room_beside-room.ensures in
    let did = c.own_send.ensures in record { value = both-answer _ _ r (Call.send c.args.o _ _) room did; m_after = both-quiet _ _ r (Call.send c.args.o _ _) room did refl }
