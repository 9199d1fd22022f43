-- `text::is_near` meets its contract: while no byte was b, the first b lies past those looked at. Assumes nothing.
use Rattle.std.proofs.Common.{◌≡◌, ◌++◌, [], ◌∷◌, List, false, length, refl, subst, arith, rules, tests}
use Rattle.std.proofs.lemmas.Fn.{fold_over, slice_gives, fronts}
use Rattle.text.specs.Text.{index_of}
use Rattle.text.proofs.Lists.{index-further}
use Rattle.text.proofs.is_near.Goals as goal

pub returns : goal.returns
unfolding index_of
returns c =
    let b = c.args.b in
    subst (λ l. c.fold.result ≡ false → index_of b l ≡ length l) c.iter.ensures.rest
    (fold_over fronts (λ y. y.now) _ (λ ys near. near ≡ false → index_of b ys ≡ length ys) _
    (λ ys near x next f' far k. let step = index-further b ys x.now near far in search rules)
    _ _ _ _ (slice_gives c.iter.result) (λ e. refl) c.fold.ensures.ran)
