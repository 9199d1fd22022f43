-- `counting::logged` meets its contract: a rate rule counts the log, and what an absolute rule counts does not depend on it. Assumes nothing.
use mathlib.Core.Path.{ap, ◌∙◌}
use Rattle.rules.specs.Amounts.{amount_in}
use Rattle.laws.specs.Folds.{sum_of}
use Rattle.machine.specs.Entries.{entry_share}
use Rattle.state.proofs.Laid.{laid-held, laid-entries}
use Rattle.counting.proofs.Counted.{logged-so, logged-any}
use Rattle.counting.proofs.logged.Goals as goal

pub counted-requires : goal.counted-requires
counted-requires c = let p = c.requires in (laid-held p.0, p.1, rw (laid-entries p.0) p.2)

pub returns-in-Rate : goal.returns-in-Rate
returns-in-Rate c =
    let start = c in
    let rule = start.args.rule in
    logged-so (c.counted.ensures ∙ ap (λ log. amount_in rule.limit (sum_of (entry_share rule start.args.time) log)) (laid-entries start.requires.0))

pub returns-in-Absolute : goal.returns-in-Absolute
returns-in-Absolute c = logged-any c.in-Absolute.is
