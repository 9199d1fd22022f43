-- `views::profile` meets its contract: the tables of a sound state are lent to the writer, and hold its profile. Assumes nothing.
use Rattle.std.proofs.lemmas.Result.{err_from_is_err_and}
use native.Mathlib.Omega.{arith}
use mathlib.Core.Path.{sym, ◌∙◌}
use Rattle.views.proofs.Held.{laid}
use Rattle.views.proofs.Listed.{listed-refused, profile-lent, listed-short, listed}
use Rattle.refusals.proofs.Once.{some_number}
use Rattle.views.proofs.profile.Goals as goal

pub returns-in_err-memory_refusal : goal.returns-in_err-memory_refusal
returns-in_err-memory_refusal c =
    let e = err_from_is_err_and c.from_residual.result c.from_residual.ensures.1 in
    let p = listed-refused _ _ c.in_err-memory_refusal.ensures (some_number _) _ in record { value = rw (e.1, e.2) p.0; room_after = p.1 }

pub bounds-m-2 : goal.bounds-m-2
bounds-m-2 c = omega (arith, (laid _ (sym c.in_ok-memory_refusal.ensures)).long)

pub slice_bounds-roots-end : goal.slice_bounds-roots-end
slice_bounds-roots-end c = omega (arith, (laid _ (sym c.in_ok-memory_refusal.ensures)).long)

pub slice_bounds-rules-end : goal.slice_bounds-rules-end
slice_bounds-rules-end c = omega (arith, (laid _ (sym c.in_ok-memory_refusal.ensures)).long)

pub text_size-size-requires : goal.text_size-size-requires
text_size-size-requires c = profile-lent _ (sym c.in_ok-memory_refusal.ensures)

pub returns-then-room-size : goal.returns-then-room-size
returns-then-room-size c =
    let p = listed-short _ (sym c.in_ok-memory_refusal.ensures) _ _ c.text_size-size.ensures c.if-room-size.true in record { value = p.0; room_after = p.1 }

pub write_text-written-requires : goal.write_text-written-requires
write_text-written-requires c = record {
  lent = profile-lent _ (sym c.in_ok-memory_refusal.ensures);
  rules_in_bounds = omega (arith, c.text_size-size.ensures, c.if-room-size.false);
}

pub returns : goal.returns
returns c =
    let d = listed _ (sym c.in_ok-memory_refusal.ensures) _ _ c.text_size-size.ensures c.if-room-size.false _ c.write_text-written.ensures.value in record { value = d.0; room_after = c.write_text-written.ensures.room_after ∙ d.1 }
