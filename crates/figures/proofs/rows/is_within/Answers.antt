-- `figures::rows::is_within` meets its contract: the test of all eight numbers. Assumes nothing.
use Rattle.std.proofs.Common.{ℕ, Bool, true, List, [], ◌∷◌, suc, length, get_or, ◌≡◌, ◌↔◌, ◌<◌, ◌≤◌, ◌∙◌, ap, refl, rules, arith, IsTrue, EachIndex, slice_index, leb}
use borrow.Author.Tests.{leb-true, le-leb}
use Rattle.laws.specs.Folds.{every}
use Rattle.laws.proofs.Every.{every-at}
use Rattle.laws.proofs.Tests.{and_i, same_test}
use Rattle.figures.specs.Account.{most}
use Rattle.figures.proofs.rows.is_within.Goals as goal

within : (xs : List ℕ) → ((k : ℕ) → k < length xs → get_or xs k 0 ≤ most) → every (λ n. leb n most) xs ≡ true
unfolding every
within [] h = refl
within (x ∷ xs) h = and_i (le-leb x most (h 0 (omega arith))) (within xs (λ k l. h (suc k) (omega arith)))

all-within : (r : Bool) (xs : List ℕ) → IsTrue r ↔ EachIndex xs (λ k. slice_index xs k ≤ most) → r ≡ every (λ n. leb n most) xs
all-within r xs told = same_test r (every (λ n. leb n most) xs)
    (λ e. within xs (told.0 e))
    (λ e. told.1 (λ k l. leb-true (get_or xs k 0) most (every-at (λ n. leb n most) xs k 0 e l)))

pub returns : goal.returns
returns c =
    let told : IsTrue c.all.result ↔ EachIndex c.from.result (λ k. slice_index c.from.result k ≤ most) = search rules in
    all-within c.all.result c.from.result told ∙ ap (every (λ n. leb n most)) c.from.ensures
