-- `given::own_gaps` meets its contract: the arm tells the scope, and so how many accounts there are. Assumes nothing.
use mathlib.Core.Path.{ap, ◌∙◌}
use mathlib.Core.Bool.{◌&&◌}
use Rattle.rules.specs.Units.{units_of}
use Rattle.rules.specs.declared.Scope.{Scope}
use lib.ListN.{length}
use native.Mathlib.Omega.{arith}
use Rattle.given.proofs.Paid.{four-clear}
use Rattle.given.proofs.Places.{own-one, own-four}
use Rattle.given.proofs.totals.own_gaps.Goals as goal

pub returns-in-EveryFill : goal.returns-in-EveryFill
unfolding units_of
returns-in-EveryFill c =
    c.total_gaps.ensures
    ∙ own-one c.args.rule c.args.totals.now c.args.place (ap (λ (s : Scope). length (units_of s)) c.in-EveryFill.is) (omega (arith, c.requires))

pub returns-in-WholeRoot : goal.returns-in-WholeRoot
returns-in-WholeRoot c =
    four-clear c.total_gaps-in-WholeRoot.result c.total_gaps-in-WholeRoot-2.result c.total_gaps-in-WholeRoot-3.result c.total_gaps-in-WholeRoot-4.result
    ∙ (λ i. ((c.total_gaps-in-WholeRoot.ensures i && c.total_gaps-in-WholeRoot-2.ensures i) && c.total_gaps-in-WholeRoot-3.ensures i) && c.total_gaps-in-WholeRoot-4.ensures i)
    ∙ own-four c.args.rule c.args.totals.now c.args.place _ c.in-WholeRoot.is c.requires

pub returns-in-OneUnit : goal.returns-in-OneUnit
unfolding units_of
returns-in-OneUnit c =
    c.total_gaps-in-OneUnit.ensures
    ∙ own-one c.args.rule c.args.totals.now c.args.place (ap (λ (s : Scope). length (units_of s)) c.in-OneUnit.is) (omega (arith, c.requires))
