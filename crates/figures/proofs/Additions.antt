-- A test told as a number, as the code and the account have it, and what adds nothing to a row. Assumes nothing.
use Rattle.std.proofs.Common.{◌≡◌, Bool, true, false, refl}
use Rattle.std.specs.Int.{from_bool}
use Rattle.demand.specs.Answers.{one}
use Rattle.rules.specs.declared.Level.{Level}
use Rattle.figures.specs.declared.Figures.{Figures}
use Rattle.figures.specs.declared.Happening.TheVariants.{Uncounted}
use Rattle.figures.specs.Figures.{accepted, rejected, fills, contracts, notional, cuts, trips_of, away, figures_of, no_figures}

pub one-is : (b : Bool) → from_bool b ≡ one b
one-is true = refl
one-is false = refl

pub nothing_is : (level : Level) {f : Figures} → f ≡ no_figures → f ≡ figures_of level Uncounted
unfolding no_figures figures_of accepted rejected fills contracts notional cuts trips_of away
nothing_is level e = e
