-- `admission::admit` meets its contract: there is room for a rule, or it is one too many. Assumes nothing.
use Rattle.admission.proofs.Joining.{rules-full}
use Rattle.admission.proofs.admit.Goals as goal

pub returns-then-tally-ge256 : goal.returns-then-tally-ge256
returns-then-tally-ge256 c = λ before held. rules-full held _ c.if-tally-ge256.true
