-- `tables::is_zero` meets its contract: what is joined so far and what is left are 0 exactly if all is. Assumes nothing.
use Prim.Native.Nat.{◌*◌, ◌≤◌}
use mathlib.Core.Path.{◌≡◌}
use lib.ListN.{length, drop}
use Rattle.tables.specs.Inner.Tables.{all_zero}
use Rattle.tables.proofs.AllZero.{eight_left}
use Rattle.tables.proofs.is_zero.Given as goal

abbrev pub invariant-loop-eight : goal.invariant-loop-eight
invariant-loop-eight l = record {
  size : l.eight-iterator.size ≡ 8;
  passed : length l.yielded * 8 ≤ length l.s;
  left : l.eight-iterator.rest.now ≡ drop (length l.yielded * 8) l.s;
  value : eight_left l.a l.b l.c l.d l.e l.f l.g l.h l.eight-iterator.rest.now ≡ all_zero l.s;
}
