-- Amounts: a number in one of the three measures that rules count in. Assumes nothing.
use Rattle.std.specs.Prelude.{ℕ, Bool, true, false}
use Rattle.rules.specs.declared.Limit.{Limit}
use Rattle.rules.specs.declared.Limit.TheVariants.{Notional, Volume, Count}
use Rattle.rules.specs.declared.Amount.{Amount}
use Rattle.rules.specs.declared.Amount.TheVariants.{Notional as Money, Volume as Lots, Count as Fills}

-- the number of an amount
unfoldable pub number_of : Amount → ℕ
number_of (Money x) = x.0
number_of (Lots x) = x.0
number_of (Fills x) = x.0

-- so much in the measure that a rule with this limit counts in: ten-thousandths, contracts or executions
unfoldable pub amount_in : Limit → ℕ → Amount
amount_in (Notional l) n = Money (record { 0 = n })
amount_in (Volume l) n = Lots (record { 0 = n })
amount_in (Count l) n = Fills (record { 0 = n })

-- an amount is in the measure that a rule with this limit counts in
unfoldable pub is_of : Limit → Amount → Bool
is_of (Notional l) (Money x) = true
is_of (Notional l) (Lots x) = false
is_of (Notional l) (Fills x) = false
is_of (Volume l) (Money x) = false
is_of (Volume l) (Lots x) = true
is_of (Volume l) (Fills x) = false
is_of (Count l) (Money x) = false
is_of (Count l) (Lots x) = false
is_of (Count l) (Fills x) = true
