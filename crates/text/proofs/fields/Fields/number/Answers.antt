-- `text::fields::Fields::number` meets its contract: it is read of decimal digits. Assumes nothing.
use Rattle.text.proofs.Ranges.{decimal-digits}
use Rattle.text.proofs.fields.Fields.number.Goals as goal

pub numeral-requires-clause-digits : goal.numeral-requires-clause-digits
numeral-requires-clause-digits c = decimal-digits
