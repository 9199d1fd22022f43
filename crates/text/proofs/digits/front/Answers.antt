-- `text::digits::front` meets its contract: the value is what the bytes before i stand for, which all are digits. Assumes nothing.
use Rattle.std.proofs.Common.{◌≡◌, ◌<◌, length, take, sym, ap, ◌∙◌, arith, length-take}
use Rattle.std.proofs.lemmas.List.{take_min}
use Rattle.text.specs.Inner.Taking.{run_read}
use Rattle.text.proofs.Runs.{running_none, running_more, running-fits, running-off, running-end}
use Rattle.text.proofs.digits.front.Goals as goal

pub loop-i-init : goal.loop-i-init
loop-i-init g c = running_none _ _ _ _

pub returns-then-not-is_digit : goal.returns-then-not-is_digit
returns-then-not-is_digit g c =
    let d = g.D.Digits in
    running-off c.loop-i.invariant c.loop-i-test.true (sym c.is_digit.ensures ∙ c.if-not-is_digit.true)
    ∙ ap (run_read d.is_digit d.BASE d.NAUGHT) (rw c.min.ensures (take_min c.args.most c.args.bytes.now))

pub overflow_mul-value : goal.overflow_mul-value
overflow_mul-value g c =
    let d = c.requires.digits in
    let early : c.loop-i.i < c.args.most = omega (arith, length-take c.min.result c.args.bytes.now) in
    rw c.BASE.ensures (omega (arith, running-fits c.loop-i.invariant c.args.most 0 early d.some))

pub overflow_add-value : goal.overflow_add-value
overflow_add-value g c =
    let d = c.requires.digits in
    let early : c.loop-i.i < c.args.most = omega (arith, length-take c.min.result c.args.bytes.now) in
    let is = d.high _ (sym c.is_digit.ensures ∙ c.if-not-is_digit.false) in
    let below : c.from.result < g.D.Digits.BASE = rw (c.from.ensures, c.NAUGHT.ensures) is in
    rw c.BASE.ensures (omega (arith, running-fits c.loop-i.invariant c.args.most c.from.result early below))

pub loop-i-preserved : goal.loop-i-preserved
loop-i-preserved g c =
    let d = c.requires.digits in
    let is = sym c.is_digit.ensures ∙ c.if-not-is_digit.false in
    let below : c.from.result < g.D.Digits.BASE = rw (c.from.ensures, c.NAUGHT.ensures) (d.high _ is) in
    rw c.BASE.ensures (running_more c.loop-i.invariant c.loop-i-test.true is (rw (← c.NAUGHT.ensures) c.from.ensures) below)

pub returns : goal.returns
returns g c =
    let d = g.D.Digits in
    let all : c.loop-i.i ≡ length (take c.min.result c.args.bytes.now) = omega arith in
    rw all at (running-end c.loop-i.invariant c.loop-i-test.false)
    ∙ ap (run_read d.is_digit d.BASE d.NAUGHT) (rw c.min.ensures (take_min c.args.most c.args.bytes.now))
