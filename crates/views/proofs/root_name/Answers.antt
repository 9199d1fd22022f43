-- `views::root_name` meets its contract: a name that is known has at most 6 bytes. Assumes nothing.
use Rattle.std.proofs.lemmas.Result.{err_from_is_err_and}
use native.Mathlib.Omega.{arith}
use mathlib.Core.Path.{sym, ap, ◌∙◌}
use Rattle.std.specs.declared.result.Result.TheVariants.{Ok}
use Rattle.views.proofs.Held.{laid, name-short}
use Rattle.views.proofs.Answers.{name-refused, name-unknown, name-unsaid, name-said}
use Rattle.refusals.proofs.Once.{some_number}
use Rattle.views.proofs.root_name.Goals as goal

pub returns-in_err-memory_refusal : goal.returns-in_err-memory_refusal
returns-in_err-memory_refusal c =
    let e = err_from_is_err_and c.from_residual.result c.from_residual.ensures.1 in
    let p = name-refused _ _ c.in_err-memory_refusal.ensures (some_number _) _ _ in record { value = rw (e.1, e.2) p.0; room_after = p.1 }

pub roots_in-requires : goal.roots_in-requires
roots_in-requires c = laid _ (sym c.in_ok-memory_refusal.ensures)

pub returns-then-roots_in-root : goal.returns-then-roots_in-root
returns-then-roots_in-root c =
    let p = name-unknown _ (sym c.in_ok-memory_refusal.ensures) _ c.roots_in.ensures _ _ c.if-roots_in-root.true in record { value = p.0; room_after = p.1 }

pub returns-then-room-lt6 : goal.returns-then-room-lt6
returns-then-room-lt6 c =
    let p = name-unsaid _ (sym c.in_ok-memory_refusal.ensures) _ c.roots_in.ensures _ _ c.if-roots_in-root.false c.if-room-lt6.true in record { value = p.0; room_after = p.1 }

pub name_in-requires : goal.name_in-requires
name_in-requires c = (laid _ (sym c.in_ok-memory_refusal.ensures), omega (arith, c.roots_in.ensures, c.if-roots_in-root.false))

pub put_name-bytes-requires : goal.put_name-bytes-requires
put_name-bytes-requires c =
    let short = name-short _ (sym c.in_ok-memory_refusal.ensures) c.args.root (omega (arith, c.roots_in.ensures, c.if-roots_in-root.false)) in
    omega (arith, rw (← c.name_in.ensures) at short, c.if-room-lt6.false)

pub returns : goal.returns
returns c =
    let ready = sym c.in_ok-memory_refusal.ensures in
    let d = name-said _ ready _ c.roots_in.ensures _ _ c.if-roots_in-root.false c.if-room-lt6.false _ c.name_in.ensures in record { value = ap Ok c.put_name-bytes.ensures.value ∙ d.0; room_after = c.put_name-bytes.ensures.room_after ∙ d.1 }
