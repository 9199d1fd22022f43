-- `text::name` meets its contract: the capitals and digits in front are all of the field and are enough, or it is no name. Assumes nothing.
use Rattle.std.proofs.Common.{◌∙◌}
use Rattle.text.specs.Text.{is_name_byte, name_of}
use Rattle.text.proofs.Ranges.{name-digits, name-fits}
use Rattle.text.proofs.Taking.{field-whole}
use Rattle.text.proofs.name.Goals as goal

pub front-value-requires : goal.front-value-requires
front-value-requires c = record { digits = name-digits; fits = name-fits c.args.most c.requires }

pub returns : goal.returns
unfolding name_of
returns c = c.then_some.ensures ∙ field-whole is_name_byte c.args.least c.args.most 256 0 c.args.f.now c.front-value.ensures
