-- `daylog::keep_places` meets its contract. Assumes nothing.
use Prim.Native.Nat.{◌-◌}
use mathlib.Core.Path.{◌≡◌, sym}
use native.Mathlib.Omega.{arith}
use lib.ListN.{length, length-drop}
use Rattle.tables.proofs.Tables.{length-places}
use Rattle.daylog.specs.Inner.Log.{entries_of, last_of}
use Rattle.daylog.proofs.Logs.{codec}
use Rattle.daylog.proofs.Turns.{rest-blanked}
use Rattle.daylog.proofs.windows.keep_places.Goals as goal

pub returns : goal.returns
returns c =
    let start = c in
    let a = start.args in
    let es = entries_of a.k a.log.now in
    let many : length (last_of a.left es) ≡ a.left = omega (arith, length-drop (length es - a.left) es, length-places codec a.k a.log.now, start.requires.1) in
    record {
      count = sym many;
      log = rest-blanked start.requires.0 (last_of a.left es) many start.requires.1 c.keep.ensures c.blank.ensures;
    }
