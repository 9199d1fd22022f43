-- `text::fields::Fields::name` meets its contract: a name is what is read of its bytes. Assumes nothing.
use Rattle.text.specs.Text.{name_of}
use Rattle.text.specs.Inner.Taking.{read_as}
use Rattle.text.proofs.Ranges.{name-digits, name-fits}
use Rattle.text.proofs.fields.Fields.name.Goals as goal

pub numeral-requires : goal.numeral-requires
numeral-requires c = record { digits = name-digits; fits = name-fits c.args.most c.requires }

pub returns-clause-value : goal.returns-clause-value
unfolding name_of read_as
returns-clause-value c = c.numeral.ensures.value
