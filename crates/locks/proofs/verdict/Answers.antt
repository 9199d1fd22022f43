-- `locks::verdict` meets its contract: the two tests are those of the firm and of the root. Assumes nothing.
use Rattle.locks.proofs.Numbers.{verdict-told}
use Rattle.locks.proofs.verdict.Goals as goal

pub returns-then-locks : goal.returns-then-locks
returns-then-locks c = let s = c in rw (verdict-told s.requires.0 s.args.root, c.if-locks.true)

pub returns-then-marked : goal.returns-then-marked
returns-then-marked c =
    let s = c in
    rw (verdict-told s.requires.0 s.args.root, c.if-locks.false, ← c.marked.ensures, ← c.marked-2.ensures, c.if-marked.true)

pub returns : goal.returns
returns c =
    let s = c in
    rw (verdict-told s.requires.0 s.args.root, c.if-locks.false, ← c.marked.ensures, ← c.marked-2.ensures, c.if-marked.false)
