-- `records::moves::narrow` meets its contract: a record's fields are written as those of the old form, if it has a record for them. Assumes nothing.
use Rattle.std.proofs.Common.{◌≡◌, ℕ, List, arith, Bool, true, false, sym, ap, ◌∙◌, length}
use Rattle.std.specs.declared.result.Result.TheVariants.{Err}
use Rattle.refusals.specs.declared.Refusal.TheVariants.{Unfit}
use Rattle.std.proofs.lemmas.Result.{err_from_is_err_and}
use Rattle.records.specs.Form.{stands, wrote_values, written_values}
use Rattle.records.specs.Event.{form}
use Rattle.records.specs.Event16.{form16}
use Rattle.records.specs.Moves.{narrowing, narrowed, moves_back}
use Rattle.records.proofs.Forms.{held}
use Rattle.records.proofs.Round.{chosen, refused}
use Rattle.records.proofs.Moved.{move-refused, move-unfit, move-put, narrowed-put}
use Rattle.records.proofs.moves.narrow.Goals as goal

pub returns-in_err-v : goal.returns-in_err-v
returns-in_err-v c =
    let p = err_from_is_err_and c.from_residual.result c.from_residual.ensures.1 in
    let d = move-refused narrowing _ _ _ c.in_err-v.ensures in
    rw (p.1, p.2) record { value = d.0; room_after = d.1 }

pub returns-in_err-old : goal.returns-in_err-old
returns-in_err-old c =
    let p = refused (moves_back c.in_ok-v.v) (narrowed c.in_ok-v.v) _ Unfit c.in_err-old.ensures in
    let q = err_from_is_err_and c.from_residual-in_err-old.result c.from_residual-in_err-old.ensures.1 in
    let d = move-unfit narrowing c.args.s.now c.args.room.now _ c.in_ok-v.ensures p.0 in
    rw (q.1, q.2, p.1) record { value = d.0; room_after = d.1 }

pub put-requires : goal.put-requires
put-requires c =
    let p = chosen _ _ _ _ c.in_ok-old.ensures in
    (omega arith, (held, ap (stands form) p.1 ∙ narrowed-put _ _ c.in_ok-v.ensures p.0))

pub returns : goal.returns
returns c =
    let room = c.args.room.now in
    let p = chosen _ _ _ _ c.in_ok-old.ensures in
    let d = move-put narrowing c.args.s.now room _ c.in_ok-v.ensures p.0 (narrowed-put _ _ c.in_ok-v.ensures p.0) in
    record {
      value = c.put.ensures.value ∙ ap (λ (v : List ℕ). wrote_values form v (length room)) p.1 ∙ d.0;
      room_after = c.put.ensures.room_after ∙ ap (λ (v : List ℕ). written_values form v room) p.1 ∙ d.1;
    }
