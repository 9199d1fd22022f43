-- `daylog::recall` meets its contract: a memo of the rule's sieve says what the rule counts. Assumes nothing.
use mathlib.Core.Path.{sym, ◌∙◌}
use Rattle.daylog.specs.Inner.Memo.{recalled_of}
use Rattle.daylog.proofs.Memos.{for-rule, memoed}
use Rattle.daylog.proofs.Sifting.{from-most}
use Rattle.daylog.proofs.recall.Goals as goal

pub returns-then-eq : goal.returns-then-eq
unfolding recalled_of
returns-then-eq c =
    let start = c in
    let sieve = c.sieve_of-s.ensures in
    let is = sym c.eq.ensures ∙ c.if-eq.true in (
      start.requires.2,
      for-rule start.requires.0.held _ _ start.requires.1 _ start.requires.2.last sieve is,
      rw (← sieve, is),
    )

pub returns-then-eq-2 : goal.returns-then-eq-2
unfolding recalled_of
returns-then-eq-2 c =
    let start = c in
    let sieve = c.sieve_of-s.ensures in
    let not_last = sym c.eq.ensures ∙ c.if-eq.false in
    let is = sym c.eq-2.ensures ∙ c.if-eq-2.true in (
      record { last = start.requires.2.other; other = start.requires.2.last; last-passed = start.requires.2.other-passed; other-passed = start.requires.2.last-passed; read = start.requires.2.read },
      for-rule start.requires.0.held _ _ start.requires.1 _ start.requires.2.other sieve is,
      rw (← sieve, not_last, is),
    )

pub passed_from-passed-requires : goal.passed_from-passed-requires
passed_from-passed-requires c =
    let start = c in
    (start.requires.0.held, from-most start.args.rule start.args.time c.sieve_of-s.ensures, start.requires.2, (start.args.time, start.requires.3))

pub returns : goal.returns
unfolding recalled_of
returns c =
    let start = c in
    let sieve = c.sieve_of-s.ensures in
    let not_last = sym c.eq.ensures ∙ c.if-eq.false in
    let not-other = sym c.eq-2.ensures ∙ c.if-eq-2.false in
    let m = memoed start.args.time start.requires.3 c.memo_of-memos.ensures in (
      record { last = m.right; other = start.requires.2.last; last-passed = m.many; other-passed = start.requires.2.last-passed; read = start.requires.2.read },
      for-rule start.requires.0.held _ _ start.requires.1 _ m.right sieve m.is-for,
      rw (← sieve, not_last, not-other, m.all),
    )
