-- Each answer is told by one accepted or one number, and an answer of the code by its refusal's number. Assumes nothing.
use mathlib.Core.Path.{◌≡◌, refl, sym, ap, ◌∙◌}
use Rattle.std.specs.Prelude.{ℕ, Result, IsErrAnd, MatchResult}
use Rattle.std.specs.declared.result.Result.TheVariants.{Ok, Err}
use Rattle.refusals.specs.declared.Refusal.{Refusal}
use Rattle.refusals.specs.Numbers.{refusal_number}
use Rattle.machine.specs.declared.Accepted.{Accepted}
use Rattle.machine.specs.declared.Accepted.TheVariants.{Judged as WasJudged, Left as WasLeft, Standing as WasStanding}
use Rattle.machine.specs.Answer.{Answer, Refused, Judged, Left, Standing, answer_told}
use Rattle.rows.specs.Inner.Told.{answer_numbered}

abbrev numbered_by : Answer → Result Accepted ℕ
numbered_by (Refused n) = Err n
numbered_by (Judged verdict grant roottrip firmtrip) = Ok (WasJudged verdict grant roottrip firmtrip)
numbered_by (Left n) = Ok (WasLeft n)
numbered_by (Standing roots) = Ok (WasStanding roots)

numbered_by_numbered : (r : Result Accepted ℕ) → numbered_by (answer_numbered r) ≡ r
numbered_by_numbered (Ok (WasJudged verdict grant roottrip firmtrip)) = refl
numbered_by_numbered (Ok (WasLeft n)) = refl
numbered_by_numbered (Ok (WasStanding roots)) = refl
numbered_by_numbered (Err n) = refl

-- each answer is told by one
pub one_numbered : (a b : Result Accepted ℕ) → answer_numbered a ≡ answer_numbered b → a ≡ b
one_numbered a b e = sym (numbered_by_numbered a) ∙ ap numbered_by e ∙ numbered_by_numbered b

-- and none is left out
pub every_answer : (answer : Answer) → answer_numbered (numbered_by answer) ≡ answer
every_answer (Refused n) = refl
every_answer (Judged verdict grant roottrip firmtrip) = refl
every_answer (Left n) = refl
every_answer (Standing roots) = refl

-- an answer of the code is told with the number of its refusal in the place of its name
pub mapped_told : (a : Result Accepted Refusal) (r : Result Accepted ℕ) → MatchResult a (λ x. r ≡ Ok x) (λ e. IsErrAnd r (λ n. n ≡ refusal_number e))
    → answer_numbered r ≡ answer_told a
mapped_told (Ok accepted) r is = ap answer_numbered is
mapped_told (Err e) (Ok accepted) is = absurd is
mapped_told (Err e) (Err n) is = ap Refused is
