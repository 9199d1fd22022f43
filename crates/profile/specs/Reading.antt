-- What reading a profile answers, and how the library tells it. Assumes nothing.
use Rattle.std.specs.Prelude.{ℕ, Result}
use Rattle.std.specs.declared.result.Result.TheVariants.{Ok, Err}
use Rattle.refusals.specs.Numbers.{refusal_number}
use Rattle.profile.specs.declared.Armed.{Armed}
use Rattle.profile.specs.declared.Fault.{Fault}

-- a text that is accepted has the firm's name and so many rules and roots; one that is refused has the refusal's number, and the line, from 1, that it is
-- for
pub data Reading : Type 0 where
  Accepted : ℕ → ℕ → ℕ → Reading
  Refused : ℕ → ℕ → Reading

-- an answer of the library, its refusal by its number
abbrev pub reading_told : Result Armed Fault → Reading
reading_told (Ok armed) = Accepted armed.firm armed.rules armed.roots
reading_told (Err fault) = Refused (refusal_number fault.refusal) fault.line
