-- `calls::lacks_places` meets its contract: it is not locked out, and the places do not suffice. Assumes nothing.
use mathlib.Core.Path.{ap, ◌∙◌}
use Rattle.machine.specs.Locks.{verdict_of}
use Rattle.locks.proofs.Laid.{locks-held, locks-are}
use Rattle.calls.proofs.Offers.{lacks-is}
use Rattle.calls.proofs.granting.lacks_places.Goals as goal

pub verdict-verdict-requires : goal.verdict-verdict-requires
verdict-verdict-requires c = (locks-held c.requires.0, c.requires.2)

pub returns : goal.returns
returns c =
    let start = c in
    lacks-is _ start.args.o _ _ _ (c.verdict-verdict.ensures ∙ ap (λ l. verdict_of l start.args.o.root) (locks-are start.requires.0)) c.is_short_of.ensures
