-- `text::digits::put_last` meets its contract: the digits from place i on are written, and those of the rest are still to be. Assumes nothing.
use Rattle.std.proofs.Common.{◌∙◌, refl}
use Rattle.text.proofs.Runs.{filling-start, filling-more, filling-end}
use Rattle.text.proofs.digits.put_last.Goals as goal

pub loop-i-init : goal.loop-i-init
loop-i-init g c = filling-start _ _ _ _

pub loop-i-preserved : goal.loop-i-preserved
loop-i-preserved g c =
    rw (c.BASE.ensures, c.NAUGHT.ensures, c.BASE-rest.ensures) (filling-more c.loop-i.invariant c.loop-i-test.true refl)

pub returns : goal.returns
returns g c = filling-end c.loop-i.invariant c.loop-i-test.false ∙ rw c.loop-i.auto.room
