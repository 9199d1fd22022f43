-- `counting::left_of` meets its contract: what the account has counted is taken from its limit. Assumes nothing.
use mathlib.Core.Path.{ap, ◌∙◌}
use Rattle.rules.specs.Valid.{is_rule}
use Rattle.packing.proofs.RulePlace.{rule-in-range}
use Rattle.state.proofs.Laid.{laid-valid}
use Rattle.counting.proofs.Counted.{account-measured, account-left}
use Rattle.counting.proofs.left_of.Goals as goal

pub left-requires : goal.left-requires
left-requires c =
    let start = c in
    let p = start.requires in (
      (rule-in-range 64 _ (ap (is_rule 64) p.2 ∙ laid-valid p.0 p.1)).0,
      account-measured start.args.m.now start.args.i start.args.time p.2 c.counted_at.ensures,
    )

pub returns : goal.returns
returns c =
    let start = c in
    account-left start.args.m.now start.args.i start.args.time start.requires.2 c.counted_at.ensures c.left.ensures
