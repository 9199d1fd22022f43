-- The row of numbers that reading a record gives, the refusal first. Assumes nothing.
use Rattle.std.specs.Prelude.{ℕ, Result, List, [], ◌∷◌, ◌++◌, take}
use Rattle.std.specs.declared.result.Result.TheVariants.{Ok, Err}
use Rattle.refusals.specs.declared.Refusal.{Refusal}
use Rattle.refusals.specs.Numbers.{refusal_number}
use Rattle.records.specs.declared.Event.{Event}
use Rattle.records.specs.declared.Event16.{Event16}
use Rattle.records.specs.Event.{values_of}
use Rattle.records.specs.Event16.{values16_of}

-- refusal, kind, time, root, unit, premium, contracts, reset, level
unfoldable pub event_row : Result Event Refusal → List ℕ
event_row (Ok e) = 0 ∷ take 8 (values_of e)
event_row (Err r) = refusal_number r ∷ 0 ∷ 0 ∷ 0 ∷ 0 ∷ 0 ∷ 0 ∷ 0 ∷ 0 ∷ []

-- of 16 bytes: the same, identity, reports, and two places for what spare bits may be named
unfoldable pub event16_row : Result Event16 Refusal → List ℕ
event16_row (Ok e) = 0 ∷ (take 10 (values16_of e) ++ (0 ∷ 0 ∷ []))
event16_row (Err r) = refusal_number r ∷ 0 ∷ 0 ∷ 0 ∷ 0 ∷ 0 ∷ 0 ∷ 0 ∷ 0 ∷ 0 ∷ 0 ∷ 0 ∷ 0 ∷ []
