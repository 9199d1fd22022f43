-- Amounts in a limit's measure: their number, and that an amount of that measure is its number in it. Assumes nothing.
use Prim.Native.Nat.{ℕ}
use mathlib.Core.Path.{◌≡◌, refl}
use mathlib.Core.Bool.{true, false≢true}
use Rattle.rules.specs.Amounts.{number_of, amount_in, is_of}
use Rattle.rules.specs.declared.Limit.{Limit}
use Rattle.rules.specs.declared.Limit.TheVariants.{Notional, Volume, Count}
use Rattle.rules.specs.declared.Amount.{Amount}
use Rattle.rules.specs.declared.Amount.TheVariants.{Notional as Money, Volume as Lots, Count as Fills}

pub number_in : (limit : Limit) (n : ℕ) → number_of (amount_in limit n) ≡ n
unfolding number_of amount_in
number_in (Notional l) n = refl
number_in (Volume l) n = refl
number_in (Count l) n = refl

pub of-in : (limit : Limit) (n : ℕ) → is_of limit (amount_in limit n) ≡ true
unfolding is_of amount_in
of-in (Notional l) n = refl
of-in (Volume l) n = refl
of-in (Count l) n = refl

-- an amount in a limit's measure is its number in that measure
pub in-number : (limit : Limit) (a : Amount) → is_of limit a ≡ true → amount_in limit (number_of a) ≡ a
unfolding is_of amount_in number_of
in-number (Notional l) (Money x) h = refl
in-number (Notional l) (Lots x) h = absurd (false≢true h)
in-number (Notional l) (Fills x) h = absurd (false≢true h)
in-number (Volume l) (Money x) h = absurd (false≢true h)
in-number (Volume l) (Lots x) h = refl
in-number (Volume l) (Fills x) h = absurd (false≢true h)
in-number (Count l) (Money x) h = absurd (false≢true h)
in-number (Count l) (Lots x) h = absurd (false≢true h)
in-number (Count l) (Fills x) h = refl
