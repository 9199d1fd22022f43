-- `register::words::sent_word` meets its contract: each part fits its field, so the sum is the packed number. Assumes nothing.
use native.Mathlib.Nat.{le_refl}
use native.Mathlib.Omega.{arith}
use Rattle.bits.specs.Fields.{total, packed, Fit}
use Rattle.register.specs.SentPlace.{sent_widths, sent_values}
use Rattle.register.proofs.SentPlace.{sent-fit}
use Rattle.register.proofs.words.sent_word.Goals.{Start}
use Rattle.register.proofs.words.sent_word.Goals as goal

fit : (c : Start) → Fit sent_widths (sent_values c.args.sent)
fit c = sent-fit 64 c.args.sent (le_refl 64) c.requires

pub overflow_mul-result : goal.overflow_mul-result
unfolding Fit sent_values
overflow_mul-result c = omega (arith, fit (goal.at.overflow_mul-result c).Start)

pub overflow_mul-result-2 : goal.overflow_mul-result-2
unfolding Fit sent_values
overflow_mul-result-2 c = omega (arith, fit (goal.at.overflow_mul-result-2 c).Start)

pub overflow_add-result : goal.overflow_add-result
unfolding Fit sent_values
overflow_add-result c = omega (arith, fit (goal.at.overflow_add-result c).Start)

pub overflow_mul-result-3 : goal.overflow_mul-result-3
unfolding Fit sent_values
overflow_mul-result-3 c = omega (arith, fit (goal.at.overflow_mul-result-3 c).Start)

pub overflow_add-result-2 : goal.overflow_add-result-2
unfolding Fit sent_values
overflow_add-result-2 c = omega (arith, fit (goal.at.overflow_add-result-2 c).Start)

pub overflow_add-result-3 : goal.overflow_add-result-3
unfolding Fit sent_values
overflow_add-result-3 c = omega (arith, fit (goal.at.overflow_add-result-3 c).Start)

pub returns : goal.returns
unfolding packed total sent_values
returns c = omega arith
