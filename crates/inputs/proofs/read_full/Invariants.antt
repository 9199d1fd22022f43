-- `inputs::read_full` is safe and ends: what has come stands in the room, and what is left of it falls. Assumes nothing of what is read.
use Rattle.std.proofs.Common.{length, ◌-◌, ◌≤◌}
use Rattle.inputs.proofs.read_full.Given as goal

abbrev pub invariant-loop-come : goal.invariant-loop-come
invariant-loop-come g l = l.come ≤ length l.room

abbrev pub decreases-loop-come : goal.decreases-loop-come
decreases-loop-come g l = length l.room - l.come
