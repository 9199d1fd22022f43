-- `register::words::sent_of` meets its contract: each field stands where the shift and the mask take it from. Assumes nothing.
use mathlib.Core.Path.{sym, ◌∙◌}
use Rattle.register.proofs.SentPlace.{sent-told, identity-told, reports-told}
use Rattle.register.proofs.words.sent_of.Goals as goal

pub returns : goal.returns
returns c = rw (c.identity_of.ensures ∙ identity-told _, c.reports_of.ensures ∙ reports-told _) (sym (sent-told _ _ _))
