-- `records::sixteen::write16` meets its contract: writing an event is writing its values. Assumes nothing.
use Prim.Native.Nat.{ℕ}
use mathlib.Core.Path.{ap, ◌∙◌}
use mathlib.Core.List.{List}
use lib.ListN.{length}
use Rattle.records.specs.Form.{wrote_values, written_values}
use Rattle.records.specs.Event16.{form16}
use Rattle.records.proofs.Forms.{lawful16}
use Rattle.records.proofs.Round.{wrote-values, written-values}
use Rattle.records.proofs.sixteen.write16.Goals as goal

pub returns : goal.returns
returns c =
    let a = c.args in record { value = c.write16_values.ensures.value ∙ ap (λ (v : List ℕ). wrote_values form16 v (length a.room.now)) c.values16_of.ensures ∙ wrote-values form16 lawful16 a.e (length a.room.now); room_after = c.write16_values.ensures.room_after ∙ ap (λ (v : List ℕ). written_values form16 v a.room.now) c.values16_of.ensures ∙ written-values form16 lawful16 a.e a.room.now }
