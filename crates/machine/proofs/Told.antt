-- What the code answers, told as an answer of the machine: no two are told alike, and none that is accepted is told as a refusal. Assumes nothing.
use mathlib.Core.Path.{◌≡◌, refl, sym, ap, ◌∙◌}
use mathlib.Core.Bool.{true, false}
use Rattle.std.specs.Prelude.{Result}
use Rattle.std.specs.declared.result.Result.TheVariants.{Ok, Err}
use Rattle.refusals.specs.declared.Refusal.{Refusal}
use Rattle.refusals.specs.Numbers.{refusal_number}
use Rattle.refusals.proofs.Once.{refusal_at, refusal_at_number}
use Rattle.machine.specs.declared.Accepted.{Accepted}
use Rattle.machine.specs.declared.Accepted.TheVariants.{Judged as WasJudged, Left as WasLeft, Standing as WasStanding}
use Rattle.machine.specs.Answer.{Answer, Refused, Judged, Left, Standing, answer_told}
use Rattle.machine.specs.Judge.{is_refusal}

abbrev told_by : Answer → Result Accepted Refusal
told_by (Refused n) = Err (refusal_at n)
told_by (Judged verdict grant roottrip firmtrip) = Ok (WasJudged verdict grant roottrip firmtrip)
told_by (Left n) = Ok (WasLeft n)
told_by (Standing roots) = Ok (WasStanding roots)

told_by_told : (a : Result Accepted Refusal) → told_by (answer_told a) ≡ a
told_by_told (Ok (WasJudged verdict grant roottrip firmtrip)) = refl
told_by_told (Ok (WasLeft n)) = refl
told_by_told (Ok (WasStanding roots)) = refl
told_by_told (Err r) = ap Err (refusal_at_number r)

-- an answer told is one answer
pub one_told : (a b : Result Accepted Refusal) → answer_told a ≡ answer_told b → a ≡ b
one_told a b e = sym (told_by_told a) ∙ ap told_by e ∙ told_by_told b

pub told_accepted : (a : Accepted) → is_refusal (answer_told (Ok a)) ≡ false
unfolding is_refusal
told_accepted (WasJudged verdict grant roottrip firmtrip) = refl
told_accepted (WasLeft n) = refl
told_accepted (WasStanding roots) = refl

pub told_refused : (r : Refusal) → is_refusal (answer_told (Err r)) ≡ true
unfolding is_refusal
told_refused r = refl

pub one_accepted : (a b : Accepted) → answer_told (Ok a) ≡ answer_told (Ok b) → a ≡ b
one_accepted a b e = let same : Ok a ≡ Ok b = one_told (Ok a) (Ok b) e in cc
