-- `figures::rows::add` meets its contract: the row is read, added to and written. Assumes nothing.
use mathlib.Core.Path.{◌∙◌, ap, sym, subst}
use lib.Seq.{sets}
use Rattle.figures.specs.declared.Figures.{Figures}
use Rattle.figures.specs.Figures.{plus, row_numbers}
use Rattle.figures.specs.Account.{most}
use Rattle.figures.specs.Inner.Rows.{AtMost}
use Rattle.figures.proofs.rows.add.Goals as goal

pub plus-row-requires : goal.plus-row-requires
plus-row-requires c = (subst (AtMost most) (sym c.row_at.ensures) c.requires.1, c.requires.2)

pub returns : goal.returns
returns c =
    let s = c.args in
    c.put_row.ensures
    ∙ ap (λ (g : Figures). sets s.a.now s.at (row_numbers g)) (c.plus-row.ensures ∙ ap (λ (row : Figures). plus row s.f) c.row_at.ensures)
