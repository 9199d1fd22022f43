-- `trims::trim` meets its contract. Assumes nothing.
use native.Mathlib.Omega.{arith}
use Rattle.seats.proofs.Tested.{long_of, laid_of}
use Rattle.seats.proofs.Leaving.{trim-read, trim-few, trim-is}
use Rattle.seats.proofs.trims.trim.Goals as goal

pub longest_window-window-requires : goal.longest_window-window-requires
longest_window-window-requires c = laid_of _ c.requires

pub clock_in-time-requires : goal.clock_in-time-requires
clock_in-time-requires c = laid_of _ c.requires

pub slice_bounds-recent_entries-end : goal.slice_bounds-recent_entries-end
slice_bounds-recent_entries-end c = omega (arith, long_of _ c.requires)

pub recent_entries-inside-requires : goal.recent_entries-inside-requires
recent_entries-inside-requires c = trim-read _ c.requires c.longest_window-window.ensures c.clock_in-time.ensures

pub slice_bounds-keep_last-end : goal.slice_bounds-keep_last-end
slice_bounds-keep_last-end c = omega (arith, long_of _ c.requires)

pub keep_last-requires : goal.keep_last-requires
keep_last-requires c = trim-few _ c.requires c.longest_window-window.ensures c.clock_in-time.ensures c.recent_entries-inside.ensures

pub returns : goal.returns
returns c = trim-is _ c.requires c.longest_window-window.ensures c.clock_in-time.ensures c.recent_entries-inside.ensures c.keep_last.ensures
