-- `counting::counted_at` meets its contract: of the account's total and what the log counts the rule counts one. Assumes nothing.
use mathlib.Core.Path.{ap, ◌∙◌}
use Rattle.rules.specs.Valid.{is_rule}
use Rattle.rules.specs.declared.Rule.{Rule}
use Rattle.state.proofs.Laid.{laid-valid}
use Rattle.counting.proofs.Counted.{account-counted}
use Rattle.counting.proofs.counted_at.Goals as goal

pub total_in-total-requires : goal.total_in-total-requires
total_in-total-requires c = let p = c.requires in (p.0, p.1, ap (λ (r : Rule). r.limit) p.2)

pub logged-requires : goal.logged-requires
logged-requires c = let p = c.requires in (p.0, ap (is_rule 64) p.2 ∙ laid-valid p.0 p.1, p.3)

pub returns : goal.returns
returns c =
    let p = c.requires in
    account-counted p.0 p.1 p.2 c.total_in-total.ensures c.logged.ensures c.counted.ensures
