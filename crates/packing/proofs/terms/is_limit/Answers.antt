-- `packing::is_limit` meets its contract: each measure has its range. Assumes nothing.
use Rattle.std.proofs.Common.{eq-eqb, ne_eqb}
use Rattle.packing.proofs.RuleTests.{limit_test}
use Rattle.packing.proofs.terms.is_limit.Goals.{then-measure-eq0, else-measure-eq0}
use Rattle.packing.proofs.terms.is_limit.Goals as goal

pub returns : goal.returns
returns c =
    elim c.if-measure-eq0.branch [
      | then-measure-eq0 w ↦ rw (c.is_within.ensures, w.most-is) (rw (eq-eqb _ _ w.if-measure-eq0.true) at (limit_test c.args.measure c.args.n))
      | else-measure-eq0 w ↦ rw (c.is_within.ensures, w.most-is) (rw (ne_eqb _ _ w.if-measure-eq0.false) at (limit_test c.args.measure c.args.n))
    ]
