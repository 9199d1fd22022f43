-- `records::moves::widen` meets its contract: a record's fields are written as those of the new form. Assumes nothing.
use Rattle.std.proofs.Common.{ℕ, List, arith, refl, ap, ◌∙◌, length}
use Rattle.std.proofs.lemmas.Result.{err_from_is_err_and}
use Rattle.records.specs.Form.{stands, wrote_values, written_values}
use Rattle.records.specs.Event.{form}
use Rattle.records.specs.Event16.{form16}
use Rattle.records.specs.Moves.{widening}
use Rattle.records.proofs.Forms.{held16}
use Rattle.records.proofs.Round.{fields-stand}
use Rattle.records.proofs.Moved.{time-moves, move-refused, move-put, widened-put}
use Rattle.records.proofs.moves.widen.Goals as goal

pub returns-in_err-v : goal.returns-in_err-v
returns-in_err-v c =
    let p = err_from_is_err_and c.from_residual.result c.from_residual.ensures.1 in
    let d = move-refused widening _ _ _ c.in_err-v.ensures in
    rw (p.1, p.2) record { value = d.0; room_after = d.1 }

pub widened-requires : goal.widened-requires
widened-requires c = time-moves _ (fields-stand form _ _ c.in_ok-v.ensures)

pub put-requires : goal.put-requires
put-requires c = (omega arith, (held16, ap (stands form16) c.widened.ensures ∙ widened-put _ _ c.in_ok-v.ensures))

pub returns : goal.returns
returns c =
    let room = c.args.room.now in
    let d = move-put widening c.args.s.now room _ c.in_ok-v.ensures refl (widened-put _ _ c.in_ok-v.ensures) in
    record {
      value = c.put.ensures.value ∙ ap (λ (v : List ℕ). wrote_values form16 v (length room)) c.widened.ensures ∙ d.0;
      room_after = c.put.ensures.room_after ∙ ap (λ (v : List ℕ). written_values form16 v room) c.widened.ensures ∙ d.1;
    }
