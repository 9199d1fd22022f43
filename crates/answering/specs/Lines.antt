-- Lines of text: numbers one after the other, and what the program prints when it arms and for a record. Assumes nothing.
use Rattle.std.specs.Prelude.{ℕ, List, [], ◌∷◌, ◌++◌}
use Rattle.text.specs.Text.{bytes}
use Rattle.text.specs.Digits.{name_bytes, decimal}
use Rattle.profile.specs.Reading.{Reading, Accepted, Refused}
use Rattle.machine.specs.Judge.{numbers}
use Rattle.machine.specs.Answer.{Answer}

-- a space before each number, and LF ends the line
unfoldable pub spaced : List ℕ → List ℕ
spaced [] = 10 ∷ []
spaced (n ∷ rest) = 32 ∷ (decimal n ++ spaced rest)

-- arming: `armed`, firm, rules and roots, or `refused`, number and line
unfoldable pub arm_line : Reading → List ℕ
arm_line (Accepted firm rules roots) = bytes "armed " ++ (name_bytes firm ++ spaced (rules ∷ roots ∷ []))
arm_line (Refused number line) = bytes "refused" ++ spaced (number ∷ line ∷ [])

-- a record: its place, refusal, verdict, grant, root trip, firm trip
unfoldable pub record_line : ℕ → Answer → List ℕ
record_line place answer = decimal place ++ spaced (numbers answer)
