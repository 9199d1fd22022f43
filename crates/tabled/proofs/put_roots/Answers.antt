-- `tabled::put_roots` meets its contract: the lines from root i on are still to be written. Assumes nothing.
use mathlib.Core.List.{◌++◌}
use Prim.Native.Nat.{◌+◌, ◌-◌, ◌*◌, ◌<◌, ◌≤◌}
use native.Mathlib.Omega.{arith}
use lib.ListN.{length, take, drop}
use borrow.Author.Rules.{rules}
use Rattle.machine.specs.State.{roots_in}
use Rattle.state.specs.State.{decode}
use Rattle.text.specs.Digits.{name_bytes}
use Rattle.answering.specs.Lines.{spaced}
use Rattle.tabled.proofs.Lines.{going-none, going_on, going_end, root_line}
use Rattle.tabled.proofs.put_roots.Goals as goal

pub roots_in-roots-requires : goal.roots_in-roots-requires
roots_in-roots-requires c = c.requires.0

pub loop-i-init : goal.loop-i-init
loop-i-init c = going-none _ _ _

pub overflow_mul-row : goal.overflow_mul-row
overflow_mul-row c = omega (arith, c.loop-i-test.true, c.roots_in-roots.ensures, c.requires.0.fits.roots)

pub overflow_add-end : goal.overflow_add-end
overflow_add-end c = omega (arith, c.loop-i-test.true, c.roots_in-roots.ensures, c.requires.0.fits.roots)

pub name_in-requires : goal.name_in-requires
name_in-requires c = (c.requires.0, omega (arith, c.loop-i-test.true, c.roots_in-roots.ensures))

pub offset_bounds-a-row : goal.offset_bounds-a-row
offset_bounds-a-row c = omega (arith, c.loop-i-test.true, c.roots_in-roots.ensures, c.requires.0.fits.roots)

pub slice_bounds-put_row-end : goal.slice_bounds-put_row-end
slice_bounds-put_row-end c = omega (arith, c.loop-i-test.true, c.roots_in-roots.ensures, c.requires.0.fits.roots, c.requires.1.0)

pub put_row-to-requires : goal.put_row-to-requires
put_row-to-requires c = (search rules, omega (arith, c.loop-i-test.true, c.roots_in-roots.ensures, c.requires.0.fits.roots, c.loop-i.invariant.near, c.loop-i.invariant.long, c.requires.1.1))

pub loop-i-preserved : goal.loop-i-preserved
unfolding roots_in
loop-i-preserved c =
    let names = (decode c.args.m.now).part.profile.roots in
    let a = c.args.a.now in
    let i = c.loop-i.i in
    let name = c.name_in.result in
    let known : i < length names = omega (arith, c.loop-i-test.true, c.roots_in-roots.ensures) in
    let fits : i * 8 + 8 ≤ length a = omega (arith, c.loop-i-test.true, c.roots_in-roots.ensures, c.requires.0.fits.roots, c.requires.1.0) in
    let line = name_bytes name ++ spaced (take (i * 8 + 8 - i * 8) (drop (i * 8) a)) in
    going_on c.loop-i.invariant known line c.put_row-to.new.room c.put_row-to.result (root_line a names i name fits c.name_in.ensures) c.put_row-to.ensures.upper_bound c.put_row-to.ensures.value c.put_row-to.ensures.room_after

pub shape_of-room : goal.shape_of-room
shape_of-room c = c.loop-i.invariant.long

pub returns : goal.returns
unfolding roots_in
returns c =
    let end = going_end c.loop-i.invariant (omega (arith, c.loop-i-test.false, c.roots_in-roots.ensures)) in
    record { upper_bound = omega (arith, c.loop-i.invariant.near, c.loop-i.invariant.within, c.requires.0.fits.roots); value = end.0; room_after = end.1 }
