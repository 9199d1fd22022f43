-- `daylog::put_entry` meets its contract: the entry's two numbers are stored one after the other. Assumes nothing.
use Prim.Native.Nat.{◌*◌}
use native.Mathlib.Numerals.{add-one}
use native.Mathlib.Omega.{arith}
use lib.ListN.{length-set}
use Rattle.packing.proofs.EntryPlace.{entry-placed}
use Rattle.daylog.proofs.windows.put_entry.Goals as goal

pub bounds-log-at-2 : goal.bounds-log-at-2
bounds-log-at-2 c =
    let start = c in
    omega (arith, length-set start.args.log.now (start.args.i * 2) c.entry_place-p.result.first, start.requires)

pub returns : goal.returns
returns c = rw (entry-placed c.args.e _ c.requires.2 c.entry_place-p.ensures, add-one)
