-- `given::longest_of` meets its contract: the greater of what was found and of the windows from rule i on is the longest. Assumes nothing.
use Prim.Native.Nat.{max}
use mathlib.Core.Path.{◌≡◌}
use Rattle.tables.specs.Inner.Tables.{places}
use Rattle.packing.specs.RulePlace.{rule_at}
use Rattle.machine.specs.Offers.{longest}
use Rattle.given.proofs.Places.{rules_from}
use Rattle.given.proofs.windows.longest_of.Given as goal

abbrev pub invariant-loop-i : goal.invariant-loop-i
invariant-loop-i l = longest (places 2 rule_at l.k l.rules) ≡ max l.most (longest (rules_from l.k l.rules l.i))
