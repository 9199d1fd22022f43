-- `state::account_at` meets its contract: the place is that of the accounts of rule i, for each rule before the one that is asked for. Assumes nothing.
use mathlib.Core.Path.{◌≡◌}
use Rattle.machine.specs.State.{rules_in}
use Rattle.machine.specs.Remaining.{first_cell}
use Rattle.state.specs.State.{decode}
use Rattle.state.proofs.account_at.Given as goal

abbrev pub invariant-loop-i : goal.invariant-loop-i
invariant-loop-i l = l.place ≡ first_cell (rules_in (decode l.m)) l.i
