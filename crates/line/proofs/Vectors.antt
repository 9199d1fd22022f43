-- Lines and what they come to where line 1 names the firm ABCD, as one table under one theorem. Assumes nothing.
use Prim.Native.Nat.{ℕ}
use Prim.Native.String.{String}
use mathlib.Core.Path.{◌≡◌, refl}
use mathlib.Core.List.{List, [], ◌∷◌, map}
use Rattle.laws.specs.Lists.{same}
use Rattle.rules.specs.declared.Scope.{Scope}
use Rattle.rules.specs.declared.Scope.TheVariants.{EveryFill, WholeRoot, OneUnit}
use Rattle.rules.specs.declared.Kind.{Kind}
use Rattle.rules.specs.declared.Kind.TheVariants.{Rate, Absolute}
use Rattle.rules.specs.declared.Limit.{Limit}
use Rattle.rules.specs.declared.Limit.TheVariants.{Notional, Volume, Count}
use Rattle.text.specs.Text.{bytes, all, onto, pieces, made, numeral, name_number, field_number, name_of}
use Rattle.line.specs.Line.{type_of, is_absolute, limits_of, limit_of, kind_of, time_of, letter_of, malformed, other_firm, out_of_range, level_clash, unit_clash, fault_of, scope_of, rule_of, line_of}
use Rattle.rules.specs.declared.Rule.{Rule}
use Rattle.std.specs.Prelude.{Result, Ok, Err}

-- a line that says a rule, and one that is refused
abbrev says : String → Scope → Kind → Limit → String × Result Rule ℕ
says t scope kind limit = (t, Ok (record { scope = scope; kind = kind; limit = limit }))

abbrev refused : String → ℕ → String × Result Rule ℕ
refused t k = (t, Err k)

-- the root XYZ as a whole, and one unit of it
abbrev xyz : Scope
xyz = WholeRoot (name_number (bytes "XYZ"))

abbrev unit : ℕ → Scope
unit u = OneUnit (name_number (bytes "XYZ")) u

-- limits in dollars, contracts and executions
abbrev dollars : ℕ → Limit
dollars n = Notional (record { 0 = n })

abbrev contracts : ℕ → Limit
contracts n = Volume (record { 0 = n })

abbrev fills : ℕ → Limit
fills n = Count (record { 0 = n })

abbrev rows : List (String × Result Rule ℕ)
rows =
    -- document 01's line, the six types, and 4 to 8 fields
    says "ABCD,abs_vol,XYZ,1000,0" xyz Absolute (contracts 1000)
    ∷ says "ABCD,abs_ntnl,XYZ,1000,0" xyz Absolute (dollars 1000)
    ∷ says "ABCD,abs_count,XYZ,1000,0" xyz Absolute (fills 1000)
    ∷ says "ABCD,rate_vol,XYZ,1000,5000" xyz (Rate 5000) (contracts 1000)
    ∷ says "ABCD,rate_ntnl,XYZ,1000,5000" xyz (Rate 5000) (dollars 1000)
    ∷ says "ABCD,rate_count,XYZ,1000,5000" xyz (Rate 5000) (fills 1000)
    ∷ says "ABCD,abs_vol,XYZ,1000" xyz Absolute (contracts 1000)
    ∷ says "ABCD,abs_vol,XYZ,1000,,,," xyz Absolute (contracts 1000)
    ∷ refused "" 6
    ∷ refused "ABCD" 6
    ∷ refused "ABCD,abs_vol,XYZ" 6
    ∷ refused "ABCD,abs_vol,XYZ,1000,,,,," 6
    -- the firm, which differs only where the line is well formed
    ∷ refused ",abs_vol,XYZ,7" 6
    ∷ refused "ABCDE,abs_vol,XYZ,7" 6
    ∷ refused "ABcD,abs_vol,XYZ,7" 6
    ∷ refused "ABC ,abs_vol,XYZ,7" 6
    ∷ refused "ABC,abs_vol,XYZ,7" 7
    ∷ refused "ABC4,abs_vol,XYZ,7" 7
    ∷ refused "ABC4,abs_vol,XYZ,x" 6
    ∷ refused "ABC4,abs_vol,XYZ,7,,,,X" 6
    ∷ refused "ABC4,abs_vol,XYZ,0" 7
    -- the type
    ∷ refused "ABCD,,XYZ,7" 6
    ∷ refused "ABCD,abs_volume,XYZ,7" 6
    ∷ refused "ABCD,Abs_vol,XYZ,7" 6
    -- the root
    ∷ says "ABCD,abs_vol,A1B2C3,7" (WholeRoot 0x413142324333) Absolute (contracts 7)
    ∷ refused "ABCD,abs_vol,ABCDEFG,7" 6
    ∷ refused "ABCD,abs_vol,XyZ,7" 6
    ∷ refused "ABCD,abs_vol,XYZ\r,7" 6
    -- the limit: its digits, and both its ends in each measure
    ∷ says "ABCD,abs_vol,XYZ,000000001000" xyz Absolute (contracts 1000)
    ∷ refused "ABCD,abs_vol,XYZ,0000000001000" 6
    ∷ refused "ABCD,abs_vol,XYZ," 6
    ∷ refused "ABCD,abs_vol,XYZ,-1" 6
    ∷ refused "ABCD,abs_vol,XYZ,1.5" 6
    ∷ refused "ABCD,abs_vol,XYZ,0" 8
    ∷ refused "ABCD,rate_ntnl,XYZ,000000000000" 8
    ∷ says "ABCD,abs_count,XYZ,1" xyz Absolute (fills 1)
    ∷ says "ABCD,rate_ntnl,XYZ,100000000000" xyz (Rate 100) (dollars 100_000_000_000)
    ∷ refused "ABCD,rate_ntnl,XYZ,100000000001" 8
    ∷ refused "ABCD,abs_ntnl,XYZ,999999999999" 8
    ∷ says "ABCD,rate_vol,XYZ,1000000000" xyz (Rate 100) (contracts 1_000_000_000)
    ∷ refused "ABCD,rate_vol,XYZ,1000000001" 8
    ∷ says "ABCD,abs_count,XYZ,1000000000" xyz Absolute (fills 1_000_000_000)
    ∷ refused "ABCD,abs_count,XYZ,1000000001" 8
    -- the time limit of a rate type: B11, its digits, and its end
    ∷ says "ABCD,rate_ntnl,XYZ,7" xyz (Rate 100) (dollars 7)
    ∷ says "ABCD,rate_ntnl,XYZ,7," xyz (Rate 100) (dollars 7)
    ∷ says "ABCD,rate_ntnl,XYZ,7,0" xyz (Rate 100) (dollars 7)
    ∷ says "ABCD,rate_ntnl,XYZ,7,99" xyz (Rate 100) (dollars 7)
    ∷ says "ABCD,rate_ntnl,XYZ,7,100" xyz (Rate 100) (dollars 7)
    ∷ says "ABCD,rate_ntnl,XYZ,7,101" xyz (Rate 101) (dollars 7)
    ∷ says "ABCD,rate_ntnl,XYZ,7,000000000101" xyz (Rate 101) (dollars 7)
    ∷ refused "ABCD,rate_ntnl,XYZ,7,0000000000101" 6
    ∷ refused "ABCD,rate_ntnl,XYZ,7,1s" 6
    ∷ refused "ABCD,rate_ntnl,XYZ,7,101\r" 6
    ∷ says "ABCD,rate_ntnl,XYZ,7,86400000" xyz (Rate 86_400_000) (dollars 7)
    ∷ refused "ABCD,rate_ntnl,XYZ,7,86400001" 8
    -- an absolute type ignores it
    ∷ says "ABCD,abs_vol,XYZ,7,86400001" xyz Absolute (contracts 7)
    ∷ says "ABCD,abs_vol,XYZ,7,0000000000101" xyz Absolute (contracts 7)
    ∷ says "ABCD,abs_vol,XYZ,7,any thing\r" xyz Absolute (contracts 7)
    -- the firm level: T, and nothing else
    ∷ says "ABCD,abs_vol,,7,,T" EveryFill Absolute (contracts 7)
    ∷ says "ABCD,rate_vol,,7,,T" EveryFill (Rate 100) (contracts 7)
    ∷ says "ABCD,abs_vol,XYZ,7,,T\r" xyz Absolute (contracts 7)
    ∷ says "ABCD,abs_vol,XYZ,7,,t" xyz Absolute (contracts 7)
    ∷ says "ABCD,abs_vol,XYZ,7,,TT" xyz Absolute (contracts 7)
    ∷ refused "ABCD,abs_vol,XYZ,7,,T" 9
    ∷ refused "ABCD,abs_vol,,7" 9
    ∷ refused "ABCD,abs_vol,,7,,T\r" 9
    ∷ refused "ABCD,abs_vol,,0" 8
    -- call/put and month
    ∷ says "ABCD,rate_count,XYZ,7,,,C,F" (unit 0) (Rate 100) (fills 7)
    ∷ says "ABCD,rate_count,XYZ,7,,,C,T" (unit 1) (Rate 100) (fills 7)
    ∷ says "ABCD,rate_count,XYZ,7,,,P,F" (unit 2) (Rate 100) (fills 7)
    ∷ says "ABCD,rate_count,XYZ,7,,,P,T" (unit 3) (Rate 100) (fills 7)
    ∷ refused "ABCD,rate_count,XYZ,7,,,c,F" 6
    ∷ refused "ABCD,rate_count,XYZ,7,,,CC,F" 6
    ∷ refused "ABCD,rate_count,XYZ,7,,,F,C" 6
    ∷ refused "ABCD,rate_count,XYZ,7,,,C,F\r" 6
    ∷ refused "ABCD,rate_count,XYZ,7,,,C" 10
    ∷ refused "ABCD,rate_count,XYZ,7,,,,T" 10
    ∷ refused "ABCD,rate_count,,7,,T,P,T" 10
    ∷ refused "ABCD,rate_count,,7,,T,P" 10
    ∷ refused "ABCD,rate_count,XYZ,7,,T,P,T" 9
    ∷ refused "ABCD,rate_count,XYZ,7,,T,P" 9
    ∷ refused "ABCD,rate_count,XYZ,7,86400001,T,P" 8
    ∷ []

pub right : map (λ r. line_of (name_number (bytes "ABCD")) (bytes r.0)) rows ≡ map (λ r. r.1) rows
unfolding same all onto pieces made numeral field_number name_of type_of is_absolute limits_of limit_of kind_of time_of letter_of malformed other_firm out_of_range level_clash unit_clash fault_of scope_of rule_of line_of
right = refl
