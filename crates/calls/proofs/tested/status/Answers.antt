-- `tested::status` meets its contract: the locks say how the roots stand. Assumes nothing.
use mathlib.Core.Path.{refl, ap, ◌∙◌}
use native.Mathlib.Omega.{arith}
use Rattle.machine.specs.Calls.{Call}
use Rattle.machine.specs.Judge.{step, step_in, judge, unless, judged}
use Rattle.machine.specs.Refusals.{refusal_of}
use Rattle.machine.specs.Remaining.{standing}
use Rattle.machine.specs.Answer.{Standing}
use Rattle.locks.proofs.Laid.{locks-held, locks-are}
use Rattle.calls.proofs.Armed.{sound-long, call-taken}
use Rattle.calls.proofs.Steps.{laid}
use Rattle.calls.proofs.tested.status.Goals as goal

pub slice_bounds-standing-end : goal.slice_bounds-standing-end
slice_bounds-standing-end c = omega (arith, sound-long _ c.requires)

pub standing-requires : goal.standing-requires
standing-requires c = locks-held (laid _ c.requires)

pub returns : goal.returns
unfolding step step_in judge unless refusal_of judged
returns c = ap Standing (c.standing.ensures ∙ ap standing (locks-are (laid _ c.requires))) ∙ call-taken _ Call.status _ refl c.requires
