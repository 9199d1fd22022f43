-- What a call on a firm's own seat answers, told in the words of the specs, is one answer. Assumes nothing.
use mathlib.Core.Path.{◌≡◌, sym, ap, ◌∙◌}
use mathlib.Core.Bool.{true, false, false≢true}
use Rattle.std.specs.Prelude.{Result}
use Rattle.std.specs.declared.result.Result.TheVariants.{Ok, Err}
use Rattle.refusals.specs.declared.Refusal.{Refusal}
use Rattle.refusals.specs.Numbers.{refusal_number}
use Rattle.refusals.proofs.Once.{one_refusal}
use Rattle.machine.specs.Judge.{is_refusal}
use Rattle.machine.proofs.Told.{one_accepted, told_accepted, told_refused}
use Rattle.seats.specs.declared.offers.Called.{Called as WasCalled}
use Rattle.seats.specs.Memory.{called_told}

pub one_called : (a b : Result WasCalled Refusal) → (called_told a).answer ≡ (called_told b).answer → (called_told a).joined ≡ (called_told b).joined → a ≡ b
one_called (Ok c) (Ok d) e j = let same = one_accepted c.accepted d.accepted e in λ i. Ok (record { accepted = same i; joined = j i })
one_called (Err r) (Err t) e j = let same : refusal_number r ≡ refusal_number t = cc in ap Err (one_refusal r t same)
one_called (Ok c) (Err t) e j = absurd (false≢true (sym (told_accepted c.accepted) ∙ ap is_refusal e ∙ told_refused t))
one_called (Err r) (Ok d) e j = absurd (false≢true (sym (told_accepted d.accepted) ∙ ap is_refusal (sym e) ∙ told_refused r))
