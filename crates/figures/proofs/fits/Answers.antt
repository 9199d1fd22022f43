-- `figures::fits` meets its contract: both rows stay at or below 10^18, and the others are as they were. Assumes nothing.
use Rattle.rules.specs.declared.Level.TheVariants.{Firm, Root}
use mathlib.Core.Path.{◌∙◌, ap₂}
use mathlib.Core.Bool.{◌&&◌}
use Rattle.figures.proofs.Counts.{own-place, own-most, firm-most, fits-exactly, figures-within}
use Rattle.figures.proofs.fits.Goals as goal

pub has_room-requires : goal.has_room-requires
has_room-requires c = let s = c in (own-place s.requires c.root_of-root.ensures, own-most s.requires c.root_of-root.ensures, figures-within (Root c.root_of-root.result) s.requires c.figures_of.ensures)

pub has_room-requires-2 : goal.has_room-requires-2
has_room-requires-2 c = let s = c in (s.requires.long, firm-most s.requires, figures-within Firm s.requires c.figures_of-2.ensures)

pub returns : goal.returns
returns c =
    let s = c in
    ap₂ ◌&&◌ c.has_room.ensures c.has_room-2.ensures ∙ fits-exactly s.requires c.root_of-root.ensures c.figures_of.ensures c.figures_of-2.ensures
