-- `tabled::put_roots` meets its contract: the lines from root i on are still to be written. Assumes nothing.
use Rattle.state.specs.State.{decode}
use Rattle.figures.specs.Account.{row_of}
use Rattle.tabled.proofs.Lines.{Going}
use Rattle.tabled.proofs.put_roots.Given as goal

abbrev pub invariant-loop-i : goal.invariant-loop-i
invariant-loop-i l = Going (row_of l.a) (decode l.m).part.profile.roots l.initial.room l.room l.to l.i
