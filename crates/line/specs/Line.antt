-- What one line of a profile says: eight fields, five faults, and the rule of a line that has none. Assumes nothing.
use Rattle.std.specs.Prelude.{ℕ, ◌+◌, ◌-◌, ◌*◌, max, Bool, true, false, cond, ◌&&◌, ◌||◌, not, List, [], ◌∷◌, length, eqb, leb, ltb, Option, Some, None, is_some, unwrap_or, Result, Ok, Err}
use Rattle.std.specs.Bool.{beq}
use Rattle.laws.specs.Lists.{same}
use Rattle.measures.specs.Ranges.{Range, is_in, dollar_limits, number_limits}
use Rattle.rules.specs.declared.Scope.{Scope}
use Rattle.rules.specs.declared.Scope.TheVariants.{EveryFill, WholeRoot, OneUnit}
use Rattle.rules.specs.declared.Kind.{Kind}
use Rattle.rules.specs.declared.Kind.TheVariants.{Rate, Absolute}
use Rattle.rules.specs.declared.Limit.{Limit}
use Rattle.rules.specs.declared.Limit.TheVariants.{Notional, Volume, Count}
use Rattle.rules.specs.declared.Rule.{Rule}
use Rattle.text.specs.Text.{bytes, fields, field, field_number, name_of}
use Rattle.line.specs.declared.LimitType.{LimitType}
use Rattle.line.specs.declared.LimitType.TheVariants.{RateNtnl, RateVol, RateCount, AbsNtnl, AbsVol, AbsCount}

-- the type that a field names
unfoldable pub type_of : List ℕ → Option LimitType
type_of f =
    cond (same f (bytes "rate_ntnl")) (Some RateNtnl)
    (cond (same f (bytes "rate_vol")) (Some RateVol)
    (cond (same f (bytes "rate_count")) (Some RateCount)
    (cond (same f (bytes "abs_ntnl")) (Some AbsNtnl)
    (cond (same f (bytes "abs_vol")) (Some AbsVol)
    (cond (same f (bytes "abs_count")) (Some AbsCount) None)))))

unfoldable pub is_absolute : LimitType → Bool
is_absolute RateNtnl = false
is_absolute RateVol = false
is_absolute RateCount = false
is_absolute AbsNtnl = true
is_absolute AbsVol = true
is_absolute AbsCount = true

-- the range of a type's limit values, and a value as a limit in its measure
unfoldable pub limits_of : LimitType → Range
limits_of RateNtnl = dollar_limits
limits_of RateVol = number_limits
limits_of RateCount = number_limits
limits_of AbsNtnl = dollar_limits
limits_of AbsVol = number_limits
limits_of AbsCount = number_limits

unfoldable pub limit_of : LimitType → ℕ → Limit
limit_of RateNtnl n = Notional (record { 0 = n })
limit_of RateVol n = Volume (record { 0 = n })
limit_of RateCount n = Count (record { 0 = n })
limit_of AbsNtnl n = Notional (record { 0 = n })
limit_of AbsVol n = Volume (record { 0 = n })
limit_of AbsCount n = Count (record { 0 = n })

-- a rate type's window is its time limit, and 100 ms where that is less; an absolute type has none
unfoldable pub kind_of : LimitType → ℕ → Kind
kind_of type time = cond (is_absolute type) Absolute (Rate (max 100 time))

-- a time limit: an absolute type ignores the field, whichever bytes it has, and an empty one reads as 0
unfoldable pub time_of : Bool → List ℕ → Option ℕ
time_of absolute f = cond absolute (Some 0) (cond (eqb (length f) 0) (Some 0) (field_number f))

-- a field that may be empty (0), the letter a (1) or the letter b (2); anything else is 3
unfoldable pub letter_of : ℕ → ℕ → List ℕ → ℕ
letter_of a b f = cond (same f []) 0 (cond (same f (a ∷ [])) 1 (cond (same f (b ∷ [])) 2 3))

-- the fields of a line: firm, limit type, root, limit value, time limit, firm level, call/put, month
abbrev pub firm_field : List ℕ → Option ℕ
firm_field line = name_of 1 4 (field line 0)

abbrev pub type_field : List ℕ → Option LimitType
type_field line = type_of (field line 1)

abbrev pub root_field : List ℕ → Option ℕ
root_field line = name_of 0 6 (field line 2)

abbrev pub limit_field : List ℕ → Option ℕ
limit_field line = field_number (field line 3)

abbrev pub time_field : List ℕ → Option ℕ
time_field line = time_of (is_absolute (unwrap_or (type_field line) RateNtnl)) (field line 4)

abbrev pub is_firm_level : List ℕ → Bool
is_firm_level line = same (field line 5) (bytes "T")

abbrev pub call_put : List ℕ → ℕ
call_put line = letter_of 67 80 (field line 6)

abbrev pub month : List ℕ → ℕ
month line = letter_of 70 84 (field line 7)

-- what they stand for in a line that is well formed: a name's number is 0 where the field is empty
abbrev pub firm_in : List ℕ → ℕ
firm_in line = unwrap_or (firm_field line) 0

abbrev pub type_in : List ℕ → LimitType
type_in line = unwrap_or (type_field line) RateNtnl

abbrev pub root_in : List ℕ → ℕ
root_in line = unwrap_or (root_field line) 0

abbrev pub limit_in : List ℕ → ℕ
limit_in line = unwrap_or (limit_field line) 0

abbrev pub time_in : List ℕ → ℕ
time_in line = unwrap_or (time_field line) 0

-- 6: the number of fields, a field's length or characters, or an unknown type
unfoldable pub malformed : List ℕ → Bool
malformed line =
    not (leb 4 (length (fields line)) && leb (length (fields line)) 8 && is_some (firm_field line) && is_some (type_field line) && is_some (root_field line)
    && is_some (limit_field line) && is_some (time_field line) && leb (call_put line) 2 && leb (month line) 2)

-- 7: the firm differs from line 1's
unfoldable pub other_firm : ℕ → List ℕ → Bool
other_firm firm line = not (eqb (firm_in line) firm)

-- 8: the limit or the window out of range
unfoldable pub out_of_range : LimitType → ℕ → ℕ → Bool
out_of_range type limit time = not (is_in (limits_of type) limit) || ltb 86_400_000 time

-- 9: a root with T, or neither
unfoldable pub level_clash : ℕ → Bool → Bool
level_clash root firm_level = beq (ltb 0 root) firm_level

-- 10: one of the unit fields set and the other empty, or set in a firm rule
unfoldable pub unit_clash : Bool → ℕ → ℕ → Bool
unit_clash firm_level call month = not (beq (ltb 0 call) (ltb 0 month)) || (firm_level && ltb 0 call)

-- the lowest number that applies, 0 if none does
unfoldable pub fault_of : ℕ → List ℕ → ℕ
fault_of firm line =
    cond (malformed line) 6
    (cond (other_firm firm line) 7
    (cond (out_of_range (type_in line) (limit_in line) (time_in line)) 8
    (cond (level_clash (root_in line) (is_firm_level line)) 9
    (cond (unit_clash (is_firm_level line) (call_put line) (month line)) 10 0))))

-- what a rule covers: every fill at firm level; all four units of its root together; or one unit, 0 calls front, 1 calls trailing, 2 puts
-- front, 3 puts trailing
unfoldable pub scope_of : ℕ → Bool → ℕ → ℕ → Scope
scope_of root firm_level call month = cond firm_level EveryFill (cond (eqb call 0) (WholeRoot root) (OneUnit root ((call - 1) * 2 + (month - 1))))

-- the rule of a line that has no fault; its scope has the root's name for a number
unfoldable pub rule_of : List ℕ → Rule
rule_of line = record {
  scope = scope_of (root_in line) (is_firm_level line) (call_put line) (month line);
  kind = kind_of (type_in line) (time_in line);
  limit = limit_of (type_in line) (limit_in line);
}

-- a line, where line 1 is the firm's
unfoldable pub line_of : ℕ → List ℕ → Result Rule ℕ
line_of firm line = cond (eqb (fault_of firm line) 0) (Ok (rule_of line)) (Err (fault_of firm line))

-- a line of any length: one that is longer than a profile may be is refused with 5, as every profile that it stands in
unfoldable pub any_line : ℕ → List ℕ → Result Rule ℕ
any_line firm line = cond (ltb 65_536 (length line)) (Err 5) (line_of firm line)
