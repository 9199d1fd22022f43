-- `register::enter` meets its contract: the order's two numbers in the first free place, and the count. Assumes nothing.
use mathlib.Core.Path.{ap₂}
use Prim.Native.Nat.{ℕ}
use mathlib.Core.List.{[], ◌∷◌}
use Rattle.register.specs.SentPlace.{sent_numbers}
use Rattle.register.proofs.Changing.{entered}
use Rattle.register.proofs.enter.Goals as goal

pub returns : goal.returns
unfolding sent_numbers
returns c =
    entered c.args.register.now c.args.sent _ _ c.requires.0 c.requires.1 (ap₂ (λ (a b : ℕ). a ∷ b ∷ []) c.sent_word.ensures c.open_word.ensures)
