-- `grant::credit` meets its contract: the accounts of the rules before i are credited, and the others stand as they were. Assumes nothing.
use Prim.Native.Nat.{◌-◌}
use mathlib.Core.Path.{◌≡◌}
use lib.ListN.{length}
use Rattle.machine.specs.State.{rules_in}
use Rattle.machine.specs.Remaining.{first_cell}
use Rattle.state.specs.State.{decode}
use Rattle.grant.proofs.Accounts.{Crediting}
use borrow.Author.Rules.{rules}
use Rattle.grant.proofs.crediting.credit.Given as goal

abbrev pub invariant-loop-i : goal.invariant-loop-i
invariant-loop-i l =
    (length l.m ≡ length l.initial.m) × Crediting l.o l.grant l.initial.m l.place l.m l.reached × (l.place ≡ first_cell (rules_in (decode l.initial.m)) l.i)
