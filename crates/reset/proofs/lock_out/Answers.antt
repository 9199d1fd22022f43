-- `reset::lock_out` meets its contract: the clock moves, then the locks change. Assumes nothing.
use Rattle.locks.proofs.Laid.{locks-held}
use Rattle.reset.proofs.Resets.{moved-laid, locked}
use Rattle.reset.proofs.lock_out.Goals as goal

pub lock-requires : goal.lock-requires
lock-requires c =
    let at-clock = c in
    let start = at-clock in
    (locks-held (moved-laid start.requires.0 start.args.time at-clock.put_clock.ensures), start.requires.1)

pub returns : goal.returns
returns c =
    let at-lock = c in
    let at-clock = at-lock in
    let start = at-clock in
    let a = start.args in
    locked start.requires.0 a.time at-clock.put_clock.ensures a.level a.root at-lock.lock.ensures
