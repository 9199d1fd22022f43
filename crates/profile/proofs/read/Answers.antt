-- `profile::read` meets its contract: the firm is that of the first line, and the arrays start with zeros. Assumes nothing.
use borrow.Author.Tests.{leb-true}
use lib.ListN.{length}
use lib.Dec.{leb}
use Rattle.laws.proofs.Tests.{and_r}
use Rattle.profile.proofs.Walk.{start-held, scan-unsized, first-firm, scan-told}
use Rattle.profile.proofs.read.Goals as goal

pub returns-then-not-text : goal.returns-then-not-text
returns-then-not-text c = scan-unsized _ _ c.from.ensures c.if-not-text.true

pub read_lines-reading-requires : goal.read_lines-reading-requires
read_lines-reading-requires c =
    let n = length c.args.text.now in
    (leb-true n 65_536 (and_r (leb 1 n) (leb n 65_536) c.if-not-text.false), start-held _)

pub returns : goal.returns
returns c =
    scan-told _ _ _ c.if-not-text.false (first-firm _ _ c.line_from.ensures c.firm_of.ensures c.firm_beside-firm.ensures) c.read_lines-reading.ensures
