-- `seats::log_use` meets its contract: refused by memory or firm, or told of the firm's part. Assumes nothing.
use Rattle.std.proofs.lemmas.Result.{err_from_is_err_and}
use mathlib.Core.Path.{sym, ap, ◌∙◌}
use Rattle.state.specs.Sound.{is_sound}
use Rattle.seats.proofs.Calls.{ready-is, own-sound}
use Rattle.seats.proofs.Uses.{use-refused, use-asked}
use Rattle.refusals.proofs.Once.{some_number}
use Rattle.seats.proofs.log_use.Goals as goal

pub returns-in_err-refusal : goal.returns-in_err-refusal
returns-in_err-refusal c =
    let e = err_from_is_err_and c.from_residual.result c.from_residual.ensures.1 in rw (e.1, e.2) (use-refused _ _ c.in_err-refusal.ensures (some_number _) _)

pub places_for-places-requires : goal.places_for-places-requires
places_for-places-requires c = sym c.in_ok-refusal.ensures

pub part-requires : goal.part-requires
part-requires c = sym c.in_ok-refusal.ensures

pub used_in-requires : goal.used_in-requires
used_in-requires c = ap is_sound c.part.ensures ∙ own-sound _ _ (ready-is _ _ (sym c.in_ok-refusal.ensures))

pub returns : goal.returns
returns c = use-asked _ _ (sym c.in_ok-refusal.ensures) _ c.part.ensures c.places_for-places.ensures c.used_in.ensures
