-- `text::place_of` meets its contract: as many bytes stand before the first b as the search passes. Assumes nothing.
use Rattle.std.proofs.Common.{◌≡◌, length, refl, rules, tests}
use Rattle.std.proofs.lemmas.Iterator.{IsFirst-from_position, YieldsList-from_slice, index_from_first}
use Rattle.text.specs.Text.{index_of}
use Rattle.text.proofs.Lists.{index-hit, index-miss, place-told}
use Rattle.text.proofs.place_of.Goals as goal

pub returns : goal.returns
unfolding index_of
returns c =
    let b = c.args.b in
    place-told c.position.result (length c.args.s.now) (index_of b c.args.s.now)
    (index_from_first (index_of b) (λ x. x ≡ b) (λ x. x ≡ b → ⊥) refl (index-hit b) (index-miss b) c.args.s.now c.position.result
    (IsFirst-from_position _ _ _ (λ x. x ≡ b) (λ x. x ≡ b → ⊥) c.position.ensures.ran (YieldsList-from_slice c.args.s.now cc) (λ x q k. search (rules, tests)) (λ x q k. search (rules, tests))))
    (rw c.iter.ensures.rest at c.position.ensures.bound)
