-- `text::fields::Fields::is_empty` meets its contract: no field is left where nothing is, and else there is one. Assumes nothing.
use Rattle.std.proofs.Common.{◌≡◌, ◌∙◌, sym}
use Rattle.text.proofs.Taking.{rest-none}
use Rattle.text.proofs.fields.Fields.is_empty.Goals as goal

pub returns : goal.returns
returns c = rw (← c.self.view_is) (rest-none c.self.inside.left c.is_none.result c.is_none.ensures)
