-- What counts for a rule at a time, by the first number of an entry and its time, and this number without flags. Assumes nothing.
use Rattle.std.specs.Prelude.{ℕ, ◌+◌, ◌*◌, ◌-◌, ◌/◌, ◌%◌, min, Bool, cond, ◌&&◌, eqb, ltb}
use Rattle.std.specs.Int.Bits.{bit_and}
use Rattle.bits.specs.Fields.{packed}
use Rattle.rules.specs.Rules.{added}
use Rattle.rules.specs.declared.Level.{Level}
use Rattle.rules.specs.declared.Level.TheVariants.{Firm, Root}
use Rattle.rules.specs.declared.Scope.{Scope}
use Rattle.rules.specs.declared.Scope.TheVariants.{EveryFill, WholeRoot, OneUnit}
use Rattle.rules.specs.declared.Kind.{Kind}
use Rattle.rules.specs.declared.Kind.TheVariants.{Rate, Absolute}
use Rattle.rules.specs.declared.Limit.{Limit}
use Rattle.rules.specs.declared.Rule.{Rule}
use Rattle.packing.specs.EntryPlace.{flag_number, fill_widths, fill_values}
use Rattle.machine.specs.declared.Entry.{Entry}
use Rattle.daylog.specs.Newest.{is_since}
use Rattle.daylog.specs.declared.sieves.Sieve.{Sieve}

-- the first time that still counts at this one, or a day's end if none does
unfoldable pub first_time : Kind → ℕ → ℕ
first_time (Rate window) time = min 86_400_000 (time + 1 - window)
first_time Absolute time = 0

-- the digits of an entry's first number that a scope asks for: root, unit and a flag take 6, 2, 1 and 1 bits
unfoldable pub sieve_in : Scope → ℕ → Sieve
sieve_in EveryFill from = record { mask = 1; want = 1; from = from }
sieve_in (WholeRoot root) from = record { mask = 63 * 16 + 2; want = root * 16 + 2; from = from }
sieve_in (OneUnit root unit) from = record { mask = 63 * 16 + 3 * 4 + 2; want = root * 16 + unit * 4 + 2; from = from }

unfoldable pub sieve_of : Rule → ℕ → Sieve
sieve_of rule time = sieve_in rule.scope (first_time rule.kind time)

-- an entry's first number
unfoldable pub fill_number : Entry → ℕ
fill_number e = packed fill_widths (fill_values e)

-- a first number has the digits that are wanted
abbrev pub is_wanted : Sieve → ℕ → Bool
is_wanted s fill = eqb (bit_and fill s.mask) s.want

-- an entry passes: its first number has the digits that are wanted, and it is not before the first time
unfoldable pub passes : Sieve → Entry → Bool
passes s e = is_wanted s (fill_number e) && is_since s.from e

-- what an entry counts in a limit's measure, if it passes
unfoldable pub sifted : Limit → Sieve → Entry → ℕ
sifted limit s e = cond (passes s e) (added limit e.premium.0 e.contracts.0) 0

-- a first number has a flag: its two lowest digits are not both 0
abbrev pub has_flag : ℕ → Bool
has_flag fill = ltb 0 (fill % 4)

-- the digits of the flags of these levels in the first number of a root's entry
unfoldable pub flag_digits : (Level → Bool) → ℕ → ℕ
flag_digits zeroes root = flag_number (zeroes (Root root)) * 2 + flag_number (zeroes Firm)

-- a first number without the flags of these levels
unfoldable pub without_flags : (Level → Bool) → ℕ → ℕ
without_flags zeroes fill = fill - bit_and fill (flag_digits zeroes (fill / 16 % 64))
