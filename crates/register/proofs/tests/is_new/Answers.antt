-- `register::tests::is_new` meets its contract: an identity that is marked is new if its place is past all. Assumes nothing.
use Rattle.register.proofs.Differing.{differing-new}
use Rattle.register.proofs.tests.is_new.Goals as goal

pub returns-else-not-marked : goal.returns-else-not-marked
returns-else-not-marked c = differing-new c.args.k c.args.register.now c.args.from c.requires.2 c.args.identity c.place_from.ensures
