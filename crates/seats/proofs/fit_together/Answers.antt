-- `seats::fit_together` meets its contract. Assumes nothing.
use native.Mathlib.Omega.{arith}
use Rattle.seats.proofs.Tested.{long_of, laid_of, order-of, use-of, use-low, entries-low, fit_is}
use Rattle.seats.proofs.fit_together.Goals as goal

pub bounds-a-2 : goal.bounds-a-2
bounds-a-2 c = omega (arith, long_of _ c.requires.0)

pub bounds-b-2 : goal.bounds-b-2
bounds-b-2 c = omega (arith, long_of _ c.requires.1)

pub entries_in-requires : goal.entries_in-requires
entries_in-requires c = laid_of _ c.requires.0

pub entries_in-requires-2 : goal.entries_in-requires-2
entries_in-requires-2 c = laid_of _ c.requires.1

pub overflow_add-entries : goal.overflow_add-entries
overflow_add-entries c = record { fits = omega (arith, c.entries_in.ensures, c.entries_in-2.ensures, entries-low _ c.requires.0, entries-low _ c.requires.1) }

pub clock_in-requires : goal.clock_in-requires
clock_in-requires c = laid_of _ c.requires.0

pub used_at-requires : goal.used_at-requires
used_at-requires c = (laid_of _ c.requires.0, order-of _ c.requires.0 c.clock_in.ensures)

pub clock_in-requires-2 : goal.clock_in-requires-2
clock_in-requires-2 c = laid_of _ c.requires.1

pub used_at-requires-2 : goal.used_at-requires-2
used_at-requires-2 c = (laid_of _ c.requires.1, order-of _ c.requires.1 c.clock_in-2.ensures)

pub overflow_add-used : goal.overflow_add-used
overflow_add-used c =
    let a = use-of _ c.requires.0 c.clock_in.ensures c.used_at.ensures in
    let b = use-of _ c.requires.1 c.clock_in-2.ensures c.used_at-2.ensures in
    record { fits = omega (arith, a, b, use-low _ c.requires.0, use-low _ c.requires.1) }

pub returns : goal.returns
returns c =
    fit_is _ _ c.requires.0 c.requires.1 _ _ _ _ c.entries_in.ensures c.entries_in-2.ensures
    (use-of _ c.requires.0 c.clock_in.ensures c.used_at.ensures)
    (use-of _ c.requires.1 c.clock_in-2.ensures c.used_at-2.ensures)
