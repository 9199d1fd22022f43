-- `seats::used_in` meets its contract: the entries stand in order up to any time that is not refused. Assumes nothing.
use mathlib.Core.Path.{sym, ◌∙◌}
use Rattle.seats.proofs.Tested.{laid_of}
use Rattle.seats.proofs.Uses.{use-late, use-told, use-ordered}
use Rattle.seats.proofs.used_in.Goals as goal

pub clock_in-requires : goal.clock_in-requires
clock_in-requires c = laid_of _ c.requires

pub returns-then-bad_time : goal.returns-then-bad_time
returns-then-bad_time c = use-late _ _ _ c.clock_in.ensures (sym c.bad_time.ensures ∙ c.if-bad_time.true)

pub used_at-requires : goal.used_at-requires
used_at-requires c = (laid_of _ c.requires, use-ordered _ c.requires _ c.clock_in.ensures (sym c.bad_time.ensures ∙ c.if-bad_time.false))

pub returns : goal.returns
returns c = use-told _ _ _ c.clock_in.ensures (sym c.bad_time.ensures ∙ c.if-bad_time.false) c.used_at.ensures
