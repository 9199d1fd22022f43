-- `records::write` meets its contract: writing an event is writing its values. Assumes nothing.
use Prim.Native.Nat.{ℕ}
use mathlib.Core.Path.{ap, ◌∙◌}
use mathlib.Core.List.{List}
use lib.ListN.{length}
use Rattle.records.specs.Form.{wrote_values, written_values}
use Rattle.records.specs.Event.{form}
use Rattle.records.proofs.Forms.{lawful}
use Rattle.records.proofs.Round.{wrote-values, written-values}
use Rattle.records.proofs.write.Goals as goal

pub returns : goal.returns
returns c =
    let a = c.args in record { value = c.write_values.ensures.value ∙ ap (λ (v : List ℕ). wrote_values form v (length a.room.now)) c.values_of.ensures ∙ wrote-values form lawful a.e (length a.room.now); room_after = c.write_values.ensures.room_after ∙ ap (λ (v : List ℕ). written_values form v a.room.now) c.values_of.ensures ∙ written-values form lawful a.e a.room.now }
