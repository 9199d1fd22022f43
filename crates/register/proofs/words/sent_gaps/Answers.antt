-- `register::words::sent_gaps` meets its contract: a gap for each test, joined. Assumes nothing.
use Rattle.register.specs.SentPlace.{sent_gaps}
use Rattle.register.proofs.words.sent_gaps.Goals as goal

pub returns : goal.returns
unfolding sent_gaps
returns c = rw (c.gap.ensures, c.gap-2.ensures, c.gap-3.ensures, c.gap-4.ensures, c.gap-5.ensures, c.gap-6.ensures, c.min.ensures)
