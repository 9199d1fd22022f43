-- `grant::is_firm` meets its contract: only a rule that covers every fill is of the firm. Assumes nothing.
use mathlib.Core.Path.{◌≡◌, refl}
use mathlib.Core.Bool.{false}
use Rattle.rules.specs.Rules.{level_of}
use Rattle.rules.specs.declared.Level.TheVariants.{Firm}
use Rattle.rules.specs.declared.Scope.{Scope}
use Rattle.rules.specs.declared.Scope.TheVariants.{EveryFill, WholeRoot, OneUnit}
use Rattle.machine.specs.Offers.{same_level}
use borrow.Author.Rules.{rules}
use Rattle.grant.proofs.is_firm.Goals as goal

pub returns-in-EveryFill : goal.returns-in-EveryFill
unfolding same_level level_of
returns-in-EveryFill c = search rules

other : (scope : Scope) → (scope ≡ EveryFill → ⊥) → false ≡ same_level (level_of scope) Firm
unfolding same_level level_of
other EveryFill not = absurd (not refl)
other (WholeRoot root) not = refl
other (OneUnit root unit) not = refl

pub returns-in_default : goal.returns-in_default
returns-in_default c = other c.args.rule.scope c.in_default.not-EveryFill
