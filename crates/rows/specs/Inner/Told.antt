-- The answer that a row tells: what is accepted, or a refusal by any number. Assumes nothing.
use Rattle.std.specs.Prelude.{ℕ, Result}
use Rattle.std.specs.declared.result.Result.TheVariants.{Ok, Err}
use Rattle.machine.specs.declared.Accepted.{Accepted}
use Rattle.machine.specs.Answer.{Answer, Refused, answer_told}

-- what is accepted, as the code tells it, or the refusal of a number
abbrev pub answer_numbered : Result Accepted ℕ → Answer
answer_numbered (Ok accepted) = answer_told (Ok accepted)
answer_numbered (Err number) = Refused number
