-- `reset::wipe_rule` meets its contract: the totals from the rule's first up to j are zeroed, whichever levels are, so long as the rule's is one of them. Assumes nothing.
use Prim.Native.Nat.{◌-◌, ◌≤◌}
use mathlib.Core.Path.{◌≡◌}
use mathlib.Core.Bool.{Bool, true}
use Rattle.rules.specs.Rules.{level_of}
use Rattle.rules.specs.declared.Level.{Level}
use Rattle.machine.specs.State.{rules_in}
use Rattle.machine.specs.Remaining.{rule_numbered}
use Rattle.state.specs.State.{decode}
use Rattle.state.proofs.Between.{Passing}
use Rattle.reset.proofs.Wipes.{wiped-fair}
use Rattle.reset.proofs.wipe_rule.Given as goal

abbrev pub invariant-loop-j : goal.invariant-loop-j
invariant-loop-j l =
    (l.j ≤ l.next) × ((zeroes : Level → Bool) → zeroes (level_of (rule_numbered (rules_in (decode l.initial.m)) l.i).scope) ≡ true → Passing (wiped-fair zeroes) l.initial.m l.place l.j l.m)
