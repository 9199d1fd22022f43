-- The calls on an armed unit, with their numbers. Assumes nothing.
use Rattle.std.specs.Prelude.{ℕ}
use Rattle.machine.specs.declared.Offer.{Offer}

-- order has time, root and reset, lockout time, level and root, remaining time, rule and unit; send has time, root, unit, premium and contracts as an
-- offer has them, then identity and reports; report has time, identity and contracts, close time and identity
pub data Call : Type 0 where
  order : ℕ → ℕ → ℕ → Call
  lockout : ℕ → ℕ → ℕ → Call
  offer : Offer → Call
  remaining : ℕ → ℕ → ℕ → Call
  status : Call
  send : Offer → ℕ → ℕ → Call
  report : ℕ → ℕ → ℕ → Call
  close : ℕ → ℕ → Call
