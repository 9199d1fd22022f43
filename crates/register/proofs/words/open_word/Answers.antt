-- `register::words::open_word` meets its contract: premium and contracts fit their fields, so the sum is the packed number. Assumes nothing.
use native.Mathlib.Nat.{le_refl}
use native.Mathlib.Omega.{arith}
use Rattle.bits.specs.Fields.{total, packed, Fit}
use Rattle.packing.specs.EntryPlace.{amount_widths}
use Rattle.register.specs.SentPlace.{open_values}
use Rattle.register.proofs.SentPlace.{open-fit}
use Rattle.register.proofs.words.open_word.Goals.{Start}
use Rattle.register.proofs.words.open_word.Goals as goal

fit : (c : Start) → Fit amount_widths (open_values c.args.sent)
fit c = open-fit 64 c.args.sent (le_refl 64) c.requires

pub overflow_mul-result : goal.overflow_mul-result
unfolding Fit open_values
overflow_mul-result c = omega (arith, fit (goal.at.overflow_mul-result c).Start)

pub overflow_add-result : goal.overflow_add-result
unfolding Fit open_values
overflow_add-result c = omega (arith, fit (goal.at.overflow_add-result c).Start)

pub returns : goal.returns
unfolding packed total open_values
returns c = omega arith
