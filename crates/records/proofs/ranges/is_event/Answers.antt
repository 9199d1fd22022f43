-- `records::ranges::is_event` meets its contract: the test by the least and the most of the kind is that of the table. Assumes nothing.
use mathlib.Core.Path.{◌≡◌, sym, ◌∙◌}
use native.Mathlib.Omega.{arith}
use lib.ListN.{length}
use Rattle.records.proofs.Tabled.{by-table}
use Rattle.records.proofs.Ranged.{tested, kinds12}
use borrow.Author.Rules.{rules}
use Rattle.records.proofs.ranges.is_event.Goals as goal

pub returns : goal.returns
returns c =
    let v = c.args.v.now in
    let size : length v ≡ 9 = search rules in
    rw c.are_between.ensures (tested kinds12 v _ _ (omega (arith, size)) c.least-low.ensures c.most-high.ensures.result_value c.most-high.ensures.value ∙ sym (by-table v size))
