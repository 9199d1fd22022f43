-- What the private functions that read the parts of a line answer; no public contract cites this. Assumes nothing.
use Rattle.std.specs.Prelude.{ℕ, ◌≡◌, Bool, false, cond, List, eqb, Option, Some, None}
use Rattle.measures.specs.Ranges.{is_in}
use Rattle.rules.specs.declared.Limit.{Limit}
use Rattle.line.specs.Line.{limits_of, limit_of, malformed, is_firm_level, call_put, month, firm_in, type_in, root_in, limit_in, time_in}
use Rattle.line.specs.declared.LimitType.{LimitType}
use Rattle.line.specs.declared.fields.Side.{Side}
use Rattle.line.specs.declared.fields.Side.TheVariants.{Call, Put}
use Rattle.line.specs.declared.fields.Month.{Month}
use Rattle.line.specs.declared.fields.Month.TheVariants.{Front, Trailing}
use Rattle.line.specs.declared.fields.Said.{Said}

-- a number as a type's limit, if it is in range
unfoldable pub limit_read : LimitType → ℕ → Option Limit
limit_read type n = cond (is_in (limits_of type) n) (Some (limit_of type n)) None

-- the choice that a number of `letter_of` stands for: none, one of two, or nothing that may stand there
abbrev pub chosen : {A : Type 0} → A → A → ℕ → Option (Option A)
chosen one two n = cond (eqb n 0) (Some None) (cond (eqb n 1) (Some (Some one)) (cond (eqb n 2) (Some (Some two)) None))

-- the numbers of the choices that a line can make
abbrev pub side_number : Option Side → ℕ
side_number None = 0
side_number (Some Call) = 1
side_number (Some Put) = 2

abbrev pub month_number : Option Month → ℕ
month_number None = 0
month_number (Some Front) = 1
month_number (Some Trailing) = 2

-- what the fields of a line say that is well formed
pub record Says (line : List ℕ) (said : Said) : Type 0 where
  pub well : malformed line ≡ false
  pub firm : said.firm ≡ firm_in line
  pub named : said.named ≡ type_in line
  pub root : said.root ≡ root_in line
  pub limit : said.limit ≡ limit_in line
  pub time : said.time ≡ time_in line
  pub firmwide : said.firmwide ≡ is_firm_level line
  pub call : side_number said.call ≡ call_put line
  pub month : month_number said.month ≡ month line
