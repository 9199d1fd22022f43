-- `profile::read_lines` meets its contract: a profile is held after every line, and the lines that are left decide the outcome. Assumes nothing.
use mathlib.Core.Path.{sym, ◌∙◌}
use native.Mathlib.Omega.{arith}
use Rattle.profile.proofs.Said.{said}
use Rattle.profile.proofs.Admission.{roots-long, rules-long}
use Rattle.profile.proofs.Walk.{walk_start, walk_end, end-within, line-any, walk-fault, walk-many, walk-next}
use Rattle.profile.proofs.read_lines.Goals as goal

pub loop-at-init : goal.loop-at-init
loop-at-init c = walk_start _ _ c.requires.1

pub overflow_add-end : goal.overflow_add-end
overflow_add-end c = omega (arith, end-within c.loop-at.invariant c.loop-at-test.true c.line_from-line.ensures)

pub overflow_add-number : goal.overflow_add-number
overflow_add-number c = let held = c.loop-at.invariant.held in omega (arith, held.so_far.rules-are, held.lawful.rules-most)

pub shape_of-roots-in-Err : goal.shape_of-roots-in-Err
shape_of-roots-in-Err c =
    omega (arith, roots-long c.loop-at.invariant.held, roots-long c.requires.1)

pub shape_of-rules-in-Err : goal.shape_of-rules-in-Err
shape_of-rules-in-Err c =
    omega (arith, rules-long c.loop-at.invariant.held, rules-long c.requires.1)

pub returns-in-Err : goal.returns-in-Err
returns-in-Err c =
    walk-fault c.loop-at.invariant c.loop-at-test.true c.line_from-line.ensures (line-any c.loop-at.invariant c.loop-at-test.true c.line_from-line.ensures c.requires.0 ∙ sym c.in-Err.ensures)

pub take_in-requires : goal.take_in-requires
take_in-requires c =
    let w = c.loop-at.invariant in
    ((w.profile, w.held), said _ _ (line-any c.loop-at.invariant c.loop-at-test.true c.line_from-line.ensures c.requires.0 ∙ sym c.in-Ok.ensures))

pub shape_of-roots-in-None : goal.shape_of-roots-in-None
shape_of-roots-in-None c =
    omega (arith, roots-long c.loop-at.invariant.held, roots-long c.requires.1)

pub shape_of-rules-in-None : goal.shape_of-rules-in-None
shape_of-rules-in-None c =
    omega (arith, rules-long c.loop-at.invariant.held, rules-long c.requires.1)

pub shape_of-counts-in-None : goal.shape_of-counts-in-None
shape_of-counts-in-None c =
    omega (arith, c.loop-at.invariant.held.so_far.long, c.requires.1.so_far.long)

pub returns-in-None : goal.returns-in-None
returns-in-None c =
    let w = c.loop-at.invariant in
    walk-many w c.loop-at-test.true c.line_from-line.ensures (line-any c.loop-at.invariant c.loop-at-test.true c.line_from-line.ensures c.requires.0 ∙ sym c.in-Ok.ensures) _
    c.in-None.is (c.take_in.ensures w.profile w.held)

pub overflow_add-at : goal.overflow_add-at
overflow_add-at c = omega (arith, end-within c.loop-at.invariant c.loop-at-test.true c.line_from-line.ensures, c.requires.0)

pub loop-at-smaller : goal.loop-at-smaller
loop-at-smaller c = omega (arith, c.loop-at-test.true)

pub loop-at-preserved : goal.loop-at-preserved
loop-at-preserved c =
    let w = c.loop-at.invariant in
    walk-next w c.loop-at-test.true c.line_from-line.ensures (line-any c.loop-at.invariant c.loop-at-test.true c.line_from-line.ensures c.requires.0 ∙ sym c.in-Ok.ensures) _
    c.in-Some.is (c.take_in.ensures w.profile w.held)

pub shape_of-roots : goal.shape_of-roots
shape_of-roots c = omega (arith, roots-long c.loop-at.invariant.held, roots-long c.requires.1)

pub shape_of-rules : goal.shape_of-rules
shape_of-rules c = omega (arith, rules-long c.loop-at.invariant.held, rules-long c.requires.1)

pub returns : goal.returns
returns c = walk_end c.loop-at.invariant c.loop-at-test.false
