-- `locks::lock` meets its contract: one number changes, by the level. Assumes nothing.
use Rattle.locks.proofs.Numbers.{locks-root, locks-firm}
use Rattle.locks.proofs.lock.Goals as goal

pub returns-then-level-eq0 : goal.returns-then-level-eq0
returns-then-level-eq0 c = locks-root c.requires.0 c.args.root c.if-level-eq0.true c.mark.ensures

pub returns : goal.returns
returns c = locks-firm c.requires.0 c.args.level c.args.root c.if-level-eq0.false
