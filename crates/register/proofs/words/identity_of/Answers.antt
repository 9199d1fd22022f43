-- `register::words::identity_of` meets its contract: the identity stands where the shift and the mask take it from. Assumes nothing.
use mathlib.Core.Path.{sym}
use Rattle.register.proofs.SentPlace.{identity-told}
use Rattle.register.proofs.words.identity_of.Goals as goal

pub returns : goal.returns
returns c = sym (identity-told _)
