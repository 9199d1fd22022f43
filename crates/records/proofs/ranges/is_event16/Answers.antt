-- `records::ranges::is_event16` meets its contract: the test by the least and the most of the kind is that of the table. Assumes nothing.
use mathlib.Core.Path.{◌≡◌, sym, ◌∙◌}
use native.Mathlib.Omega.{arith}
use lib.ListN.{length}
use Rattle.records.proofs.Tabled.{by-table16}
use Rattle.records.proofs.Ranged.{tested, kinds16}
use borrow.Author.Rules.{rules}
use Rattle.records.proofs.ranges.is_event16.Goals as goal

pub returns : goal.returns
returns c =
    let v = c.args.v.now in
    let size : length v ≡ 11 = search rules in
    rw c.are_between.ensures (tested kinds16 v _ _ (omega (arith, size)) c.least16-low.ensures c.most16-high.ensures.result_value c.most16-high.ensures.value ∙ sym (by-table16 v size))
