-- `output::lines_size` meets its contract: the lines of the rules from place i on are still to be counted. Assumes nothing.
use native.Mathlib.Omega.{arith}
use Rattle.writing.proofs.Loops.{line-short, counting-none, counting-on, counting-end, known-here}
use Rattle.writing.specs.Inner.Parts.{names_of}
use Rattle.writing.proofs.lines_size.Goals as goal

pub loop-i-init : goal.loop-i-init
loop-i-init c = counting-none c.args.firm c.args.roots.now c.args.rules.now c.args.k c.requires

pub rule_at-requires : goal.rule_at-requires
rule_at-requires c = (c.requires.rules-long, omega (arith, c.loop-i-test.true, c.requires.few))

pub line_size-size-requires : goal.line_size-size-requires
line_size-size-requires c = known-here c.args.firm c.args.roots.now c.args.rules.now c.args.k c.loop-i.i c.loop-i-test.true c.rule_at.result c.rule_at.ensures c.requires.roots-long c.loop-i.invariant.valid

pub overflow_add-size : goal.overflow_add-size
overflow_add-size c = omega (arith, c.loop-i.invariant.near, c.loop-i-test.true, c.requires.few, c.line_size-size.ensures, line-short c.args.firm (names_of c.args.roots.now) c.rule_at.result)

pub loop-i-preserved : goal.loop-i-preserved
loop-i-preserved c = counting-on c.args.firm c.args.roots.now c.args.rules.now c.args.k c.loop-i.invariant c.loop-i-test.true c.rule_at.result c.rule_at.ensures c.line_size-size.result c.line_size-size.ensures

pub returns : goal.returns
returns c = counting-end c.args.firm c.args.roots.now c.args.rules.now c.args.k c.loop-i.invariant c.loop-i-test.false
