-- `text::is_field` meets its contract: the field is compared byte by byte. Assumes nothing.
use Rattle.std.proofs.Common.{◌∙◌}
use Rattle.text.proofs.Lists.{same-pointwise}
use Rattle.text.proofs.is_field.Goals as goal

pub returns : goal.returns
returns c = c.eq.ensures ∙ same-pointwise _ _
