-- `records::is_valid` meets its contract: an event is valid if its values are an event's. Assumes nothing.
use mathlib.Core.Path.{ap, ◌∙◌}
use Rattle.records.specs.Form.{stands}
use Rattle.records.specs.Event.{form}
use Rattle.records.proofs.Forms.{lawful}
use Rattle.records.proofs.Round.{stands_of}
use Rattle.records.proofs.is_valid.Goals as goal

pub returns : goal.returns
returns c = c.are_values.ensures ∙ ap (stands form) c.values_of.ensures ∙ stands_of form lawful _
