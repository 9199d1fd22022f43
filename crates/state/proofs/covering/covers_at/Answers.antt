-- `state::covering::covers_at` meets its contract: the digits of the second number tell the rule's scope. Assumes nothing.
use Rattle.rules.specs.Units.{of_unit}
use Rattle.machine.specs.Offers.{covers_offer}
use Rattle.state.proofs.Scopes.{covered-is}
use Rattle.state.proofs.covering.covers_at.Goals as goal

pub returns : goal.returns
unfolding covers_offer of_unit
returns c =
    let o = c.args.o in
    covered-is _ _ _ c.scope_word-word.ensures.0 o.root o.unit
