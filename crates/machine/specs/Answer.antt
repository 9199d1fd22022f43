-- What a call is answered, and the answers of the code told so. Assumes nothing.
use Rattle.std.specs.Prelude.{ℕ, Bool, Result}
use Rattle.std.specs.declared.result.Result.TheVariants.{Ok, Err}
use Rattle.bits.specs.declared.Standing.{Standing as Stood}
use Rattle.refusals.specs.declared.Refusal.{Refusal}
use Rattle.refusals.specs.Numbers.{refusal_number}
use Rattle.machine.specs.declared.Accepted.{Accepted}
use Rattle.machine.specs.declared.Accepted.TheVariants.{Judged as WasJudged, Left as WasLeft, Standing as WasStanding}

-- a refusal by its number; the verdict with the grant, the root trip and the firm trip; what remains of a limit; or how the roots stand
pub data Answer : Type 0 where
  Refused : ℕ → Answer
  Judged : ℕ → ℕ → Bool → Bool → Answer
  Left : ℕ → Answer
  Standing : Stood → Answer

-- what the code answers, in these words
abbrev pub answer_told : Result Accepted Refusal → Answer
answer_told (Ok (WasJudged verdict grant roottrip firmtrip)) = Judged verdict grant roottrip firmtrip
answer_told (Ok (WasLeft n)) = Left n
answer_told (Ok (WasStanding roots)) = Standing roots
answer_told (Err r) = Refused (refusal_number r)
