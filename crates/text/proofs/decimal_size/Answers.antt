-- `text::decimal_size` meets its contract: a number has one digit more than its logarithm says. Assumes nothing.
use Rattle.std.proofs.Common.{sym, ap, ◌∙◌, length}
use Rattle.text.specs.Digits.{decimal}
use Rattle.text.proofs.Sizes.{decimal-naught, decimal-log}
use Rattle.text.proofs.decimal_size.Goals as goal

pub returns-then-n-eq0 : goal.returns-then-n-eq0
returns-then-n-eq0 c = sym (ap (λ n. length (decimal n)) c.if-n-eq0.true ∙ decimal-naught)

pub returns-else-n-eq0 : goal.returns-else-n-eq0
returns-else-n-eq0 c = decimal-log c.args.n c.ilog10.result c.ilog10.ensures.power_le c.ilog10.ensures.next_power_gt c.ilog10.ensures.bound
