-- `figures::rows::row_at` meets its contract: each figure stands at its column behind the row's place. Assumes nothing.
use Rattle.std.proofs.Common.{◌≡◌, ◌∙◌, ◌+◌, ◌<◌, ℕ, get_or, sym, arith}
use Rattle.std.proofs.lemmas.Grind.{common_steps}
use Rattle.figures.specs.Levels.{columns}
use Rattle.figures.proofs.Table.{same_row, row-at}
use Rattle.figures.proofs.rows.row_at.Goals as goal

pub returns : goal.returns
returns c =
    let xs = c.args.a.now in
    let ys = c.copy_from_slice.new.self in
    let read : (column : ℕ) → column < columns → get_or ys (0 + column) 0 ≡ get_or xs (c.args.at + column) 0 =
    λ column l. rw c.copy_from_slice.ensures.after (grind (arith, common_steps)) in
    c.from.ensures ∙ same_row _ _ (λ column l. row-at ys 0 column l ∙ read column l ∙ sym (row-at xs c.args.at column l))
