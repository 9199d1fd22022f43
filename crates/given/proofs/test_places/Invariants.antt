-- `given::test_places` meets its contract: what is known before place i, and the rules and totals from it on, decide as all of them do. Assumes nothing.
use Rattle.given.proofs.Pass.{Passed}
use Rattle.given.proofs.test_places.Given as goal

abbrev pub invariant-loop-i : goal.invariant-loop-i
invariant-loop-i l = Passed l.n l.k l.rules l.totals l.i l.tally l.counts l.place l.gaps l.most
