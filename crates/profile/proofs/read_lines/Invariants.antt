-- `profile::read_lines` meets its contract: a profile is held after every line, and the lines that are left decide the outcome. Assumes nothing.
use Prim.Native.Nat.{◌+◌, ◌-◌}
use lib.ListN.{length}
use Rattle.profile.proofs.Walk.{Walk}
use Rattle.profile.proofs.read_lines.Given as goal

abbrev pub invariant-loop-at : goal.invariant-loop-at
invariant-loop-at l = Walk l.text l.firm l.tally l.at l.roots l.rules l.counts

abbrev pub decreases-loop-at : goal.decreases-loop-at
decreases-loop-at l = length l.text + 1 - l.at
