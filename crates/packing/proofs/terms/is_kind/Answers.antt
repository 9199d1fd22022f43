-- `packing::is_kind` meets its contract: each kind has its windows. Assumes nothing.
use Rattle.std.proofs.Common.{eq-eqb, ne_eqb}
use Rattle.packing.proofs.RuleTests.{kind_test}
use Rattle.packing.proofs.terms.is_kind.Goals.{then-n-eq0, else-n-eq0}
use Rattle.packing.proofs.terms.is_kind.Goals as goal

pub returns : goal.returns
returns c =
    elim c.if-n-eq0.branch [
      | then-n-eq0 w ↦ rw (c.is_within.ensures, w.least-is) (rw (eq-eqb _ _ w.if-n-eq0.true) at (kind_test c.args.n c.args.window))
      | else-n-eq0 w ↦ rw (c.is_within.ensures, w.least-is) (rw (ne_eqb _ _ w.if-n-eq0.false) at (kind_test c.args.n c.args.window))
    ]
