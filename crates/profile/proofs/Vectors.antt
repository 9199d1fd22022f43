-- Texts and what reading them answers, as one table under one theorem, and once the numbers of the rules' roots. Assumes nothing.
use Prim.Native.Nat.{ℕ, zero, suc, ◌+◌, ◌/◌, ◌%◌}
use Prim.Native.String.{String}
use mathlib.Core.Path.{◌≡◌, refl}
use mathlib.Core.List.{List, [], ◌∷◌, ◌++◌, map}
use lib.ListN.{replicate}
use Rattle.laws.specs.Lists.{same}
use Rattle.rules.specs.Rules.{covers}
use Rattle.rules.specs.declared.Scope.TheVariants.{EveryFill, WholeRoot, OneUnit}
use Rattle.text.specs.Text.{bytes, all, onto, pieces, index_of, made, numeral, field_number, name_of}
use Rattle.line.specs.Line.{type_of, is_absolute, limits_of, limit_of, kind_of, time_of, letter_of, malformed, other_firm, out_of_range, level_clash, unit_clash, fault_of, scope_of, rule_of, line_of}
use Rattle.admission.specs.Admission.{how_many, is_firm_rule, on_unit, crowded}
use Rattle.profile.specs.Profile.{with_root, roots_with, numbered, joined, too_many, after_line, read_on, outcome_of, reading_of}
use Rattle.profile.specs.Reading.{Reading, Accepted, Refused}

-- what a function gives for 0, 1 and so on, n in all, one after the other
abbrev each : ℕ → (ℕ → List ℕ) → List ℕ
each zero f = []
each (suc n) f = each n f ++ f n

-- n times the same text
abbrev times : ℕ → String → List ℕ
times n t = each n (λ k. bytes t)

-- a rule of root n, whose name has two letters, on all four units or on one
abbrev root : ℕ → String → List ℕ
root n unit = bytes "A,abs_vol," ++ ((65 + n / 8) ∷ (65 + n % 8) ∷ bytes ",1,,," ++ bytes unit)

abbrev whole : ℕ → List ℕ
whole n = root n ",\n"

-- a rule on each unit of a root, n times
abbrev apart : ℕ → ℕ → List ℕ
apart n r = each n (λ k. root r "C,F\n" ++ root r "C,T\n" ++ root r "P,F\n" ++ root r "P,T\n")

-- 256 rules
abbrev full : List ℕ
full = each 16 (apart 4)

abbrev texts : List (List ℕ × Reading)
texts =
    -- document 01's line, without a last LF and with one; two LF at the end, and nothing but an LF
    (bytes "ABCD,abs_vol,XYZ,1000,0", Accepted 0x41424344 1 1)
    ∷ (bytes "ABCD,abs_vol,XYZ,1000,0\n", Accepted 0x41424344 1 1)
    ∷ (bytes "ABCD,abs_vol,XYZ,1000,0\n\n", Refused 6 2)
    ∷ (bytes "\n", Refused 6 1)
    ∷ (bytes "\nA,abs_vol,Q,5", Refused 6 1)
    -- 5: no byte, and one too many
    ∷ ([], Refused 5 0)
    ∷ (replicate 65_537 10, Refused 5 0)
    -- 6: the number of fields, a type, a name, a number, a letter; CR is a byte like any other
    ∷ (bytes "A,abs_vol,Q", Refused 6 1)
    ∷ (bytes "A,abs_vol,Q,5,,,,,", Refused 6 1)
    ∷ (bytes "A,abs_volume,Q,5", Refused 6 1)
    ∷ (bytes "A,abs_vol,QRSTUVW,5", Refused 6 1)
    ∷ (bytes "A,abs_vol,Q,0000000000001", Refused 6 1)
    ∷ (bytes "A,abs_vol,Q,5,,,X,F", Refused 6 1)
    ∷ (bytes "A,abs_vol,Q,5\r\n", Refused 6 1)
    ∷ (bytes "A,abs_vol,Q,5,\r\n", Accepted 65 1 1)
    ∷ (bytes "A,rate_vol,Q,5,\r\n", Refused 6 1)
    -- 7: the firm of a later line
    ∷ (bytes "A,abs_vol,Q,5\nB,abs_vol,Q,5\nB,abs_vol,Q,5", Refused 7 2)
    ∷ (bytes "A,abs_vol,Q,5\nA,abs_vol,Q,5\nAA,abs_vol,Q,0", Refused 7 3)
    ∷ (bytes "A,abs_vol,Q,5\nB,abs_vol,Q,x", Refused 6 2)
    -- 8: limits and windows
    ∷ (bytes "A,abs_vol,Q,0", Refused 8 1)
    ∷ (bytes "A,abs_count,Q,1000000001", Refused 8 1)
    ∷ (bytes "A,abs_ntnl,Q,100000000000\nA,abs_ntnl,Q,100000000001", Refused 8 2)
    ∷ (bytes "A,rate_vol,Q,5,86400000\nA,rate_vol,Q,5,86400001", Refused 8 2)
    -- 9 and 10: levels and units; the first faulty line decides, and the lowest number in it
    ∷ (bytes "A,abs_vol,Q,5,,T", Refused 9 1)
    ∷ (bytes "A,abs_vol,,5,,F", Refused 9 1)
    ∷ (bytes "A,abs_vol,Q,5,,T,C", Refused 9 1)
    ∷ (bytes "A,abs_vol,Q,5,,,C\nA,abs_vol", Refused 10 1)
    ∷ (bytes "A,abs_vol,Q,5\nA,abs_vol,,5,,T,C,F", Refused 10 2)
    -- equal rules, rules of the firm alone, and roots by first appearance
    ∷ (bytes "A,abs_vol,Q,5\nA,abs_vol,Q,5", Accepted 65 2 1)
    ∷ (bytes "A,abs_vol,,5,,T", Accepted 65 1 0)
    ∷ (bytes "A,abs_vol,Q,5\nA,abs_vol,P,5\nA,abs_vol,Q,5", Accepted 65 3 2)
    -- 11: firm rules
    ∷ (times 10 "A,abs_vol,,5,,T\n", Accepted 65 10 0)
    ∷ (times 11 "A,abs_vol,,5,,T\n", Refused 11 11)
    -- 11: rules on a unit; a rule of the whole root counts on each, and is refused as soon as one is full
    ∷ (times 7 "A,abs_vol,Q,5,,,P,T\n", Refused 11 7)
    ∷ (times 7 "A,abs_vol,Q,5\n", Refused 11 7)
    ∷ (times 6 "A,abs_vol,Q,5\n" ++ bytes "A,abs_vol,Q,5,,,C,T", Refused 11 7)
    ∷ (times 6 "A,abs_vol,Q,5,,,P,F\n" ++ bytes "A,abs_vol,Q,5", Refused 11 7)
    ∷ (times 6 "A,abs_vol,Q,5,,,P,F\n" ++ bytes "A,abs_vol,R,5", Accepted 65 7 2)
    ∷ (apart 6 0, Accepted 65 24 1)
    -- 11: roots
    ∷ (each 64 whole ++ whole 5, Accepted 65 65 64)
    ∷ (each 65 whole, Refused 11 65)
    -- 11: rules; a line after 256 that is malformed gets its own number
    ∷ (full ++ root 20 "C,F", Refused 11 257)
    ∷ (full ++ bytes "A,abs_vol", Refused 6 257)
    ∷ []

-- the rules of the roots Q and P and of the firm, in this order
abbrev mixed : List ℕ
mixed = bytes "A,abs_vol,Q,5\nA,abs_vol,,5,,T\nA,abs_vol,P,5,,,P,T\nA,abs_vol,Q,5,,,C,F"

right : (map (λ t. reading_of (outcome_of t.0)) texts ≡ map (λ t. t.1) texts)
    × (map (λ rule. rule.scope) (outcome_of mixed).profile.rules ≡ WholeRoot 0 ∷ EveryFill ∷ OneUnit 1 3 ∷ OneUnit 0 0 ∷ [])
unfolding same covers all onto pieces index_of made numeral field_number name_of type_of is_absolute limits_of limit_of kind_of time_of letter_of malformed other_firm out_of_range level_clash unit_clash fault_of scope_of rule_of line_of with_root roots_with numbered joined how_many is_firm_rule on_unit crowded too_many after_line read_on outcome_of reading_of
right = (refl, refl)
