-- `text::fields::Fields::rest` meets its contract: where nothing is left, no bytes have the same first field and no others. Assumes nothing.
use Rattle.std.proofs.Common.{◌≡◌, get_or, drop, List, [], refl}
use Rattle.text.specs.Text.{fields}
use Rattle.text.proofs.Taking.{rest-first, rest-others}
use Rattle.text.proofs.fields.Fields.rest.Goals as goal

pub returns-clause-first : goal.returns-clause-first
returns-clause-first c = rw (← c.self.view_is, c.unwrap_or.ensures) (rest-first c.self.inside.left _ refl)

pub returns-clause-others : goal.returns-clause-others
returns-clause-others c = rw (← c.self.view_is, c.unwrap_or.ensures) (rest-others c.self.inside.left _ refl)
