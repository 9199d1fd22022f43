-- `figures::count` meets its contract: the rows are added to one after the other. Assumes nothing.
use Rattle.rules.specs.declared.Level.TheVariants.{Firm, Root}
use mathlib.Core.Path.{◌∙◌}
use Rattle.figures.proofs.Counts.{own-place, own-most, after-long, after-most, counted-after, figures-within}
use Rattle.figures.proofs.count.Goals as goal

pub add-requires : goal.add-requires
add-requires c = let s = c in (own-place s.requires c.root_of-root.ensures, own-most s.requires c.root_of-root.ensures, figures-within (Root c.root_of-root.result) s.requires c.figures_of.ensures)

pub add-requires-2 : goal.add-requires-2
add-requires-2 c = let s = c in (after-long s.requires c.root_of-root.result c.figures_of.result c.add.ensures, after-most s.requires c.root_of-root.result c.figures_of.result c.add.ensures c.root_of-root.ensures, figures-within Firm s.requires c.figures_of-2.ensures)

pub returns : goal.returns
returns c =
    let s = c in
    c.add-2.ensures ∙ counted-after s.args.a.now s.args.h c.add.ensures c.root_of-root.ensures c.figures_of.ensures c.figures_of-2.ensures
