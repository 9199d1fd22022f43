-- `figures::rows::has_room` meets its contract: the row is read, added to and tested. Assumes nothing.
use mathlib.Core.Path.{◌∙◌, ap, sym, subst}
use lib.Dec.{leb}
use Rattle.laws.specs.Folds.{every}
use Rattle.figures.specs.declared.Figures.{Figures}
use Rattle.figures.specs.Figures.{plus, row_numbers}
use Rattle.figures.specs.Account.{most}
use Rattle.figures.specs.Inner.Rows.{AtMost}
use Rattle.figures.proofs.rows.has_room.Goals as goal

pub plus-requires : goal.plus-requires
plus-requires c = (subst (AtMost most) (sym c.row_at.ensures) c.requires.1, c.requires.2)

pub returns : goal.returns
returns c =
    let f = c.args.f in
    c.is_within.ensures
    ∙ ap (λ (g : Figures). every (λ n. leb n most) (row_numbers g)) (c.plus.ensures ∙ ap (λ (row : Figures). plus row f) c.row_at.ensures)
