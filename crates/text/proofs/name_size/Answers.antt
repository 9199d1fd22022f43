-- `text::name_size` meets its contract: a byte for each eight bits, and for those that are left. Assumes nothing.
use Rattle.std.proofs.Common.{arith, ◌∙◌}
use Rattle.text.proofs.Sizes.{name-bits}
use Rattle.text.proofs.name_size.Goals as goal

pub returns : goal.returns
returns c = c.div_ceil.ensures ∙ name-bits c.args.name (omega arith)
