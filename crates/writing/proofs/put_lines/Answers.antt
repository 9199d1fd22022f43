-- `output::put_lines` meets its contract: the lines of the rules from place i on are still to be written. Assumes nothing.
use native.Mathlib.Omega.{arith}
use Rattle.writing.proofs.Loops.{writing-none, writing-on, writing-end, known-here, one-long}
use Rattle.writing.proofs.put_lines.Goals as goal

pub loop-i-init : goal.loop-i-init
loop-i-init c = writing-none c.args.firm c.args.roots.now c.args.rules.now c.args.k c.requires.rules_placed c.args.room.now

pub rule_at-requires : goal.rule_at-requires
rule_at-requires c = (c.requires.rules_placed.rules-long, omega (arith, c.loop-i-test.true, c.requires.rules_placed.few))

pub put_line-to-requires : goal.put_line-to-requires
put_line-to-requires c = record { known_scope = known-here c.args.firm c.args.roots.now c.args.rules.now c.args.k c.loop-i.i c.loop-i-test.true c.rule_at.result c.rule_at.ensures c.requires.rules_placed.roots-long c.loop-i.invariant.valid; rule_in_bounds = omega (arith, c.requires.rules_in_bounds, c.loop-i.invariant.long, c.loop-i.invariant.ends, one-long c.args.firm c.args.roots.now c.args.rules.now c.args.k c.loop-i.i c.loop-i-test.true c.rule_at.result c.rule_at.ensures) }

pub loop-i-preserved : goal.loop-i-preserved
loop-i-preserved c = writing-on c.args.firm c.args.roots.now c.args.rules.now c.args.k c.loop-i.invariant c.loop-i-test.true c.rule_at.result c.rule_at.ensures c.put_line-to.result c.put_line-to.new.room c.put_line-to.ensures.value c.put_line-to.ensures.room_after

pub shape_of-room : goal.shape_of-room
shape_of-room c = c.loop-i.invariant.long

pub returns : goal.returns
returns c = let told = writing-end c.args.firm c.args.roots.now c.args.rules.now c.args.k c.loop-i.invariant c.loop-i-test.false in
    record { value = told.0; room_after = told.1 }
