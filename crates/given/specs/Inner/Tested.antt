-- What the test of rules and totals tells. Assumes nothing.
use Rattle.std.specs.Prelude.{ℕ, Bool, true, false, Option, Some, None}

-- whether they hold, and then the longest window of the rules
abbrev pub tested_of : Bool → ℕ → Option ℕ
tested_of true longest = Some longest
tested_of false longest = None
