-- Orders sent away, as what was done tells: what is left of the one last sent under an identity, and what a report counts as. Assumes nothing.
use Rattle.std.specs.Prelude.{ℕ, ◌-◌, Bool, false, cond, List, [], ◌∷◌, eqb}
use Rattle.machine.specs.declared.Offer.{Offer}
use Rattle.machine.specs.declared.Sent.{Sent}
use Rattle.machine.specs.Deeds.{Source, granted, reported, Deed, nothing, passing, filling, resetting, locking_out, sending, closing}
use Rattle.machine.specs.Register.{no_sent}

-- a deed sends an order of this identity away
unfoldable pub sends : ℕ → Deed → Bool
sends identity nothing = false
sends identity (passing time) = false
sends identity (filling source o n) = false
sends identity (resetting time root effect) = false
sends identity (locking_out time level) = false
sends identity (sending time sent) = eqb sent.identity identity
sends identity (closing time other) = false

-- a deed closes it
unfoldable pub closes : ℕ → Deed → Bool
closes identity nothing = false
closes identity (passing time) = false
closes identity (filling source o n) = false
closes identity (resetting time root effect) = false
closes identity (locking_out time level) = false
closes identity (sending time sent) = false
closes identity (closing time other) = eqb other identity

-- a fill was reported for this identity
unfoldable pub is_for : ℕ → Source → Bool
is_for identity granted = false
is_for identity (reported other) = eqb identity other

-- a report of n contracts leaves so many fewer open, and one report fewer
unfoldable pub less_report : ℕ → Sent → Sent
less_report n sent = record {
  identity = sent.identity;
  root = sent.root;
  unit = sent.unit;
  premium = sent.premium;
  contracts = record { 0 = sent.contracts.0 - n };
  reports = sent.reports - 1;
}

-- what a deed leaves of the order last sent under an identity: a reset leaves it, and so does an order of another identity
unfoldable pub sent_after : ℕ → Deed → Sent → Sent
sent_after identity nothing sent = sent
sent_after identity (passing time) sent = sent
sent_after identity (filling source o n) sent = cond (is_for identity source) (less_report n sent) sent
sent_after identity (resetting time root effect) sent = sent
sent_after identity (locking_out time level) sent = sent
sent_after identity (sending time new) sent = cond (eqb new.identity identity) new sent
sent_after identity (closing time other) sent = sent

-- what is left of the order last sent under an identity
unfoldable pub sent_in : ℕ → List Deed → Sent
sent_in identity [] = no_sent
sent_in identity (deed ∷ earlier) = sent_after identity deed (sent_in identity earlier)

-- what a report of n contracts counts as: a fill of the order's root and unit, at its premium
unfoldable pub fill_in : List Deed → ℕ → ℕ → ℕ → Offer
fill_in deeds time identity n = record {
  time = time;
  root = (sent_in identity deeds).root;
  unit = (sent_in identity deeds).unit;
  premium = (sent_in identity deeds).premium.0;
  contracts = n;
}
