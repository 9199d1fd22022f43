-- `calls::is_full` meets its contract: the entries inside and the kept places leave no place, if there is a rate rule. Assumes nothing.
use mathlib.Core.Path.{ap, ◌∙◌}
use native.Mathlib.Omega.{arith}
use Rattle.machine.specs.Register.{kept_places}
use Rattle.state.specs.State.{decode}
use Rattle.state.proofs.Laid.{laid-orders, laid-sent}
use Rattle.state.proofs.Uses.{kept-most}
use Rattle.grant.proofs.Joined.{window-is, passed_is}
use Rattle.calls.proofs.Offers.{full_by}
use Rattle.calls.proofs.granting.is_full.Goals as goal

pub kept-kept-requires : goal.kept-kept-requires
kept-kept-requires c = laid-orders c.requires.0

pub overflow_add-result : goal.overflow_add-result
overflow_add-result c =
    let start = c in
    omega (arith, start.requires.1, c.kept-kept.ensures ∙ ap kept_places (laid-sent start.requires.0), kept-most start.requires.0.fits)

pub returns : goal.returns
returns c =
    let start = c in
    let s = decode start.args.m.now in
    λ time is. full_by start.requires.0.fits time (window-is s time is) (passed_is s time is) (c.kept-kept.ensures ∙ ap kept_places (laid-sent start.requires.0))
