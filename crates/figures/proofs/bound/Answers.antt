-- `figures::bound` meets its contract: the two cases are those of `bound_of`. Assumes nothing.
use mathlib.Core.Path.{sym, ◌∙◌}
use Rattle.figures.specs.Inner.Rows.{bound_of}
use Rattle.figures.proofs.bound.Goals as goal

pub returns-then-are_low : goal.returns-then-are_low
unfolding bound_of
returns-then-are_low c = rw (sym c.are_low.ensures ∙ c.if-are_low.true)

pub returns : goal.returns
unfolding bound_of
returns c = rw (sym c.are_low.ensures ∙ c.if-are_low.false) c.greatest.ensures
