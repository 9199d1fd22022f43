-- `grant::cuts_of` meets its contract: the lesser of a cut and what the accounts of the rules from i on leave is what all accounts leave. Assumes nothing.
use Prim.Native.Nat.{◌-◌}
use mathlib.Core.Path.{◌≡◌}
use Rattle.rules.specs.declared.Level.TheVariants.{Firm, Root}
use Rattle.machine.specs.State.{rules_in}
use Rattle.machine.specs.Remaining.{first_cell}
use Rattle.state.specs.State.{decode}
use Rattle.daylog.specs.Inner.Memo.{RightTwo}
use Rattle.grant.proofs.Cut.{Cut}
use borrow.Author.Rules.{rules}
use Rattle.grant.proofs.cuts_of.Given as goal

abbrev pub invariant-loop-i : goal.invariant-loop-i
invariant-loop-i l =
    Cut (decode l.m).log l.o (decode l.m).part.accounts (Root l.o.root) l.place l.cuts.root × Cut (decode l.m).log l.o (decode l.m).part.accounts Firm l.place l.cuts.firm
    × RightTwo (decode l.m).log l.memos × (l.place ≡ first_cell (rules_in (decode l.m)) l.i)
