-- `counting::recall` meets its contract: a rate rule asks the log, and what an absolute rule counts does not depend on the memos. Assumes nothing.
use mathlib.Core.Path.{ap, ◌∙◌}
use mathlib.Core.List.{List}
use Rattle.rules.specs.Amounts.{amount_in}
use Rattle.laws.specs.Folds.{sum_of}
use Rattle.machine.specs.Entries.{entry_share}
use Rattle.machine.specs.declared.Entry.{Entry}
use Rattle.daylog.specs.Inner.Sieve.{sieve_of}
use Rattle.daylog.specs.Inner.Memo.{recalled_of}
use Rattle.state.specs.State.{decode}
use Rattle.state.proofs.Laid.{laid-held, laid-entries}
use Rattle.counting.proofs.Counted.{logged-so, logged-any, memos-rate, memos-absolute}
use Rattle.counting.proofs.recall.Goals as goal

pub recall-requires : goal.recall-requires
recall-requires c = let p = c.requires in (laid-held p.0, p.1, rw (laid-entries p.0) p.3, rw (laid-entries p.0) p.2)

pub returns-in-Rate : goal.returns-in-Rate
returns-in-Rate c =
    let start = c in
    let rule = start.args.rule in
    let entries = laid-entries start.requires.0 in
    let e = c.recall.ensures in (
      rw entries at e.0,
      logged-so (ap (amount_in rule.limit) (e.1 ∙ ap (sum_of (entry_share rule start.args.time)) entries)),
      e.2
          ∙ ap (λ (log : List Entry). recalled_of (sieve_of rule start.args.time) log start.args.memos.now) entries
          ∙ memos-rate (decode start.args.m.now).log rule start.args.time start.args.memos.now c.in-Rate.is,
    )

pub returns-in-Absolute : goal.returns-in-Absolute
returns-in-Absolute c =
    let start = c in
    let args = start.args in
    let absolute = c.in-Absolute.is in
    (start.requires.3, logged-any absolute, memos-absolute (decode args.m.now).log args.rule args.time args.memos.now absolute)
