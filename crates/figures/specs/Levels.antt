-- The rows that an account has, and the firm's figures beside the roots'. Assumes nothing.
use Rattle.std.specs.Prelude.{ℕ, ◌<◌, ◌≤◌, ◌≡◌, List, get_or}
use Rattle.bits.specs.Locks.{count}
use Rattle.rules.specs.declared.Level.{Level}
use Rattle.rules.specs.declared.Level.TheVariants.{Firm, Root}
use Rattle.figures.specs.declared.Figures.{Figures}
use Rattle.figures.specs.Figures.{row_numbers}
use Rattle.figures.specs.Account.{most, row_of}

-- the roots that an account has rows for
abbrev pub root_rows : ℕ
root_rows = 64

-- a level that has a row: the firm, and each of the 64 roots
unfoldable pub HasRow : Level → Type 0
HasRow Firm = Unit {0}
HasRow (Root r) = r < root_rows

-- how many figures a row has, and a row's figure in a column, from 0
abbrev pub columns : ℕ
columns = 8

abbrev pub figure_at : Figures → ℕ → ℕ
figure_at f column = get_or (row_numbers f) column 0

-- no figure of any row is above 10^18
unfoldable pub WithinMost : List ℕ → Type 0
WithinMost account = (level : Level) → HasRow level → (column : ℕ) → column < columns → figure_at (row_of account level) column ≤ most

-- some figure of some row is
unfoldable pub Above : List ℕ → Type 0
Above account = (level : Level) × (HasRow level × ((column : ℕ) × ((column < columns) × (most < figure_at (row_of account level) column))))

-- ---- the firm's figures and the roots'

-- the sum over the roots
abbrev pub over_roots : (ℕ → ℕ) → ℕ
over_roots f = count f root_rows

-- every figure of the firm is the sum of the roots', trips apart: the firm's are firm trips, a root's its root trips
pub record AddsUp (rows : Level → Figures) : Type 0 where
  pub accepted : (rows Firm).accepted ≡ over_roots (λ r. (rows (Root r)).accepted)
  pub rejected : (rows Firm).rejected ≡ over_roots (λ r. (rows (Root r)).rejected)
  pub fills : (rows Firm).fills.0 ≡ over_roots (λ r. (rows (Root r)).fills.0)
  pub contracts : (rows Firm).contracts.0 ≡ over_roots (λ r. (rows (Root r)).contracts.0)
  pub notional : (rows Firm).notional.0 ≡ over_roots (λ r. (rows (Root r)).notional.0)
  pub cuts : (rows Firm).cuts ≡ over_roots (λ r. (rows (Root r)).cuts)
  pub away : (rows Firm).away ≡ over_roots (λ r. (rows (Root r)).away)
