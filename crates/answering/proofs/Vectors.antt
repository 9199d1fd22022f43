-- The scope's example as lines, and numbers at their ends, in one table. Assumes nothing.
use Prim.Native.Nat.{ℕ, ◌^◌, ◌-◌}
use Prim.Native.String.{String}
use mathlib.Core.Path.{◌≡◌, refl}
use mathlib.Core.Bool.{true, false}
use mathlib.Core.List.{List, [], ◌∷◌, ◌++◌}
use Rattle.text.specs.Text.{bytes, numeral, name_number}
use Rattle.text.specs.Digits.{digits_up_to, name_bytes, decimal}
use Rattle.profile.specs.Reading.{Accepted, Refused as NotArmed}
use Rattle.machine.specs.Judge.{numbers}
use Rattle.machine.specs.Answer.{Refused, Judged}
use Rattle.answering.specs.Lines.{spaced, arm_line, record_line}

-- a line's text
abbrev pub line : String → List ℕ
line text = bytes text ++ (10 ∷ [])

pub example : ◌≡◌ {A = List (List ℕ)}
    (arm_line (Accepted (name_number (bytes "ABCD")) 1 1)
    ∷ record_line 1 (Judged 0 950 false false)
    ∷ record_line 2 (Judged 0 50 true false)
    ∷ record_line 3 (Judged 2 0 false false)
    ∷ record_line 10 (Refused 16)
    ∷ record_line (2 ^ 64 - 1) (Judged 0 1000000 false true)
    ∷ arm_line (NotArmed 5 0)
    ∷ arm_line (NotArmed 11 257)
    ∷ [])
    (line "armed ABCD 1 1"
    ∷ line "1 0 0 950 0 0"
    ∷ line "2 0 0 50 1 0"
    ∷ line "3 0 2 0 0 0"
    ∷ line "10 16 0 0 0 0"
    ∷ line "18446744073709551615 0 0 1000000 0 1"
    ∷ line "refused 5 0"
    ∷ line "refused 11 257"
    ∷ [])
unfolding numeral digits_up_to name_bytes decimal numbers spaced arm_line record_line
example = refl
