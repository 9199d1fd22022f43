-- `refusing::timed_refusal` meets its contract: 12 by the clock. Assumes nothing.
use mathlib.Core.Bool.{true, false}
use Rattle.calls.proofs.Steps.{laid}
use Rattle.calls.proofs.Timed.{timed-is}
use Rattle.calls.proofs.refusing.timed_refusal.Goals as goal

pub clock_in-requires : goal.clock_in-requires
clock_in-requires c = laid _ c.requires

pub returns-then-bad_time : goal.returns-then-bad_time
returns-then-bad_time c = timed-is _ _ c.requires _ c.clock_in.ensures _ c.bad_time.ensures true c.if-bad_time.true

pub returns : goal.returns
returns c = timed-is _ _ c.requires _ c.clock_in.ensures _ c.bad_time.ensures false c.if-bad_time.false
