-- The name that a number holds, as a test. Assumes nothing.
use Rattle.std.specs.Prelude.{ℕ, Bool}
use Rattle.text.specs.Text.{is_name}
unfoldable pub use Rattle.text.specs.Digits.{digits_up_to, name_bytes}

-- a number holds a name of least to most capitals or digits
unfoldable pub is_name_number : ℕ → ℕ → ℕ → Bool
is_name_number least most n = is_name least most (name_bytes n)
