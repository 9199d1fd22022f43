-- What a call does. Assumes nothing.
use Rattle.std.specs.Prelude.{ℕ}
use Rattle.rules.specs.declared.Level.{Level}
use Rattle.machine.specs.declared.Offer.{Offer}
use Rattle.machine.specs.declared.Sent.{Sent}
use Rattle.machine.specs.Effects.{Effect}

-- where a fill comes from: the unit granted it, or it was reported from away for the order of this identity
pub data Source : Type 0 where
  granted : Source
  reported : ℕ → Source

-- nothing at all (a refusal, Remaining, Status); only the clock moves (an offer or a sending that was locked out); so much, perhaps 0, is filled of an
-- offer; an order for a root has its reset's effect; a level is locked out; an order is sent away; the order of an identity is closed
pub data Deed : Type 0 where
  nothing : Deed
  passing : ℕ → Deed
  filling : Source → Offer → ℕ → Deed
  resetting : ℕ → ℕ → Effect → Deed
  locking_out : ℕ → Level → Deed
  sending : ℕ → Sent → Deed
  closing : ℕ → ℕ → Deed

-- the clock after a deed: the deed's time
unfoldable pub clock_after : Deed → ℕ → ℕ
clock_after nothing clock = clock
clock_after (passing time) clock = time
clock_after (filling source o n) clock = o.time
clock_after (resetting time root effect) clock = time
clock_after (locking_out time level) clock = time
clock_after (sending time sent) clock = time
clock_after (closing time identity) clock = time
