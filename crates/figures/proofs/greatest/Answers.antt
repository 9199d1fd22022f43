-- `figures::greatest` meets its contract: the greatest so far and of those left is that of all. Assumes nothing.
use Rattle.std.proofs.Common.{ℕ, ◌≡◌, ◌+◌, max, get_or, drop, ap, ◌∙◌, sym, arith, rules}
use Rattle.figures.specs.Inner.Rows.{greatest_of}
use Rattle.figures.proofs.Greatests.{greatest-on, greatest-end}
use Rattle.figures.proofs.greatest.Goals as goal

pub loop-n-preserved : goal.loop-n-preserved
loop-n-preserved c =
    let xs = c.args.s.now in
    let l = c.loop-n in
    let larger : c.max-most.result ≡ max l.most (get_or xs l.n-index 0) = search rules in
    ap (λ (n : ℕ). max n (greatest_of (drop (l.n-index + 1) xs))) larger ∙ sym (greatest-on xs l.most l.n-index (omega arith)) ∙ l.invariant

pub returns : goal.returns
returns c = sym (greatest-end c.args.s.now c.loop-n.most c.loop-n.n-index c.loop-n-test.false) ∙ c.loop-n.invariant
