-- `counting::counted_by` meets its contract: of the account's total and what the log counts the rule counts one. Assumes nothing.
use mathlib.Core.Path.{ap, ◌∙◌}
use Rattle.rules.specs.Rules.{counted_of}
use Rattle.rules.specs.Valid.{is_rule}
use Rattle.rules.specs.declared.Rule.{Rule}
use Rattle.state.proofs.Laid.{laid-valid}
use Rattle.counting.proofs.Counted.{account-counted}
use Rattle.counting.proofs.counted_by.Goals as goal

pub total_in-total-requires : goal.total_in-total-requires
total_in-total-requires c = let p = c.requires in (p.0, p.1, ap (λ (r : Rule). r.limit) p.2)

pub recall-requires : goal.recall-requires
recall-requires c = let p = c.requires in (p.0, ap (is_rule 64) p.2 ∙ laid-valid p.0 p.1, p.4, p.3)

pub returns : goal.returns
returns c =
    let start = c in
    let rule = start.args.rule in
    let p = start.requires in
    let memos = c.recall.ensures in
    let total = c.total_in-total in
    record {
      amount = account-counted p.0 p.1 p.2 total.ensures memos.1 (c.counted.ensures ∙ ap (counted_of rule.kind total.result) c.sum_in.ensures);
      memos_after = (memos.0, memos.2);
    }
