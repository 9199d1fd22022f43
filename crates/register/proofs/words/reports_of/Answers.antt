-- `register::words::reports_of` meets its contract: the reports are the lowest bits. Assumes nothing.
use mathlib.Core.Path.{sym}
use Rattle.register.proofs.SentPlace.{reports-told}
use Rattle.register.proofs.words.reports_of.Goals as goal

pub returns : goal.returns
returns c = sym (reports-told _)
