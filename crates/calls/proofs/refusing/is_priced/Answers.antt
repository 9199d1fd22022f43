-- `calls::is_priced` meets its contract: both ranges are tested. Assumes nothing.
use Rattle.calls.proofs.refusing.is_priced.Reads as reads
use Rattle.calls.proofs.refusing.is_priced.Lts as lts
use Rattle.calls.proofs.refusing.is_offer.Reads as is-offer-reads
use Rattle.calls.proofs.refusing.is_premium.Reads as is-premium-reads
use Rattle.calls.proofs.refusing.is_priced.Goals as goal

pub returns : goal.returns
returns c = rw (c.is_premium.ensures, c.is_offer.ensures)
