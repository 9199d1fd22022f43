-- `seats::arm` meets its contract: refused by the memory or the text, or the other's seat is made clean and the firm is armed. Assumes nothing.
use mathlib.Core.Path.{sym, ◌∙◌}
use native.Mathlib.Omega.{arith}
use Rattle.std.proofs.lemmas.Result.{err_from_is_err_and}
use Rattle.refusals.proofs.Once.{some_number}
use Rattle.seats.proofs.Armable.{arm-refused, armable, name-asked, clean-asked, text-refused, between-long, armed-asked, clean-long, text-accepted}
use borrow.Author.Rules.{rules}
use Rattle.seats.proofs.arm.Goals as goal

pub returns-in_err-arm_refusal : goal.returns-in_err-arm_refusal
returns-in_err-arm_refusal c =
    let q = err_from_is_err_and c.from_residual.result c.from_residual.ensures.1 in
    let p = arm-refused _ _ _ _ c.in_err-arm_refusal.ensures (some_number _) in
    record { value = rw (q.1, q.2) p.0; m_after = p.1 }

pub overflow_mul-at : goal.overflow_mul-at
overflow_mul-at c = record { fits = omega (arith, (armable _ _ (sym c.in_ok-arm_refusal.ensures)).known) }

pub overflow_add-end : goal.overflow_add-end
overflow_add-end c = record { fits = omega (arith, (armable _ _ (sym c.in_ok-arm_refusal.ensures)).known) }

pub overflow_sub-other : goal.overflow_sub-other
overflow_sub-other c = omega (arith, (armable _ _ (sym c.in_ok-arm_refusal.ensures)).known)

pub slice_bounds-name_in-end : goal.slice_bounds-name_in-end
slice_bounds-name_in-end c = let a = (armable _ _ (sym c.in_ok-arm_refusal.ensures)) in omega (arith, a.known, a.long)

pub name_in-name-requires : goal.name_in-name-requires
name_in-name-requires c = name-asked _ _ (armable _ _ (sym c.in_ok-arm_refusal.ensures))

pub slice_bounds-clean-end : goal.slice_bounds-clean-end
slice_bounds-clean-end c = let a = (armable _ _ (sym c.in_ok-arm_refusal.ensures)) in omega (arith, a.known, a.long)

pub clean-requires : goal.clean-requires
clean-requires c = clean-asked _ _ (armable _ _ (sym c.in_ok-arm_refusal.ensures))

pub offset_bounds-m-at : goal.offset_bounds-m-at
offset_bounds-m-at c = record { fits = omega (arith, (armable _ _ (sym c.in_ok-arm_refusal.ensures)).known) }

pub slice_bounds-write_armed-end : goal.slice_bounds-write_armed-end
slice_bounds-write_armed-end c = let a = (armable _ _ (sym c.in_ok-arm_refusal.ensures)) in omega (arith, a.known, between-long _ _ a c.args.text.now c.name_in-name.ensures c.clean.ensures (clean-long _ _ a c.clean.ensures))

pub write_armed-requires : goal.write_armed-requires
write_armed-requires c =
    let a = (armable _ _ (sym c.in_ok-arm_refusal.ensures)) in
    (armed-asked _ _ a c.args.text.now c.name_in-name.ensures c.clean.ensures (clean-long _ _ a c.clean.ensures), search rules, search rules)

pub returns-in_err-armed : goal.returns-in_err-armed
returns-in_err-armed c =
    let q = err_from_is_err_and c.from_residual-in_err-armed.result c.from_residual-in_err-armed.ensures.1 in
    let p = text-refused _ _ (armable _ _ (sym c.in_ok-arm_refusal.ensures)) _ c.name_in-name.ensures _ c.read-scan.ensures _ c.in_err-armed.was in
    record { value = rw (q.1, q.2) p.0; m_after = p.1 }

pub returns : goal.returns
returns c =
    let a = armable _ _ (sym c.in_ok-arm_refusal.ensures) in
    let p = text-accepted _ _ a _ c.name_in-name.ensures c.clean.ensures (clean-long _ _ a c.clean.ensures) _ c.read-scan.ensures _ c.in_ok-armed.was c.write_armed.ensures in
    record { value = p.0; m_after = p.1 }
