-- `daylog::counted` meets its contract: the memo of the rule's sieve says what the rule counts. Assumes nothing.
use mathlib.Core.Path.{ap, ◌∙◌}
use Rattle.rules.specs.Amounts.{amount_in}
use Rattle.daylog.proofs.Memos.{for-rule, memoed}
use Rattle.daylog.proofs.Sifting.{from-most}
use Rattle.daylog.proofs.counted.Goals as goal

pub since-passed-requires : goal.since-passed-requires
since-passed-requires c =
    let start = c in
    (start.requires.0.held, from-most start.args.rule start.args.time c.sieve_of-s.ensures)

pub returns : goal.returns
returns c =
    let start = c in
    let m = memoed start.args.time start.requires.2 c.memo_of.ensures in
    c.sum_in.ensures
    ∙ ap (amount_in start.args.rule.limit)
    (for-rule start.requires.0.held start.args.rule start.args.time start.requires.1 _ m.right c.sieve_of-s.ensures m.is-for)
