-- `text::fields::Fields::numeral` meets its contract: where the field ends behind the digits, they are the field; else it is no number. Assumes nothing.
use Rattle.std.proofs.Common.{sym, ◌∙◌, arith}
use Rattle.std.proofs.lemmas.List.{take_rest}
use Rattle.text.proofs.Taking.{taken-over, taken-short, taken_is, run-comma, run-within}
use Rattle.text.proofs.Passing.{comma-there, other-there, same-others}
use Rattle.text.proofs.fields.Fields.numeral.Goals as goal

pub slice_bounds-behind-count : goal.slice_bounds-behind-count
slice_bounds-behind-count g c =
    let d = g.D.Digits in
    run-within d.is_digit c.requires.digits.comma c.args.least c.args.most d.BASE d.NAUGHT c.rest-rest.result.now c.front-value.ensures

pub slice_bounds-behind-start : goal.slice_bounds-behind-start
slice_bounds-behind-start g c =
    let d = g.D.Digits in
    run-within d.is_digit c.requires.digits.comma c.args.least c.args.most d.BASE d.NAUGHT c.rest-rest.result.now c.front-value.ensures

pub returns-in_err-left-clause-value : goal.returns-in_err-left-clause-value
returns-in_err-left-clause-value g c =
    let d = g.D.Digits in
    let s = c.rest-rest.result.now in
    let end = c.front-value.result.1 in
    let other = other-there s end (rw (take_rest s end) at c.in_err-left.ensures) in
    rw (c.from_residual.ensures, c.rest-rest.ensures.first)
    (taken-over d.is_digit c.requires.digits.comma c.args.least c.args.most d.BASE d.NAUGHT s c.front-value.ensures other.0 other.1)

pub returns-then-end-least-clause-value : goal.returns-then-end-least-clause-value
returns-then-end-least-clause-value g c =
    let d = g.D.Digits in
    let s = c.rest-rest.result.now in
    let end = c.front-value.result.1 in
    let ends = comma-there s end (rw (take_rest s end) at c.in_ok-left.ensures.0) in
    rw c.rest-rest.ensures.first (taken-short d.is_digit c.requires.digits.comma c.args.least c.args.most d.BASE d.NAUGHT s c.front-value.ensures ends c.if-end-least.true)

pub returns-clause-value : goal.returns-clause-value
returns-clause-value g c =
    let d = g.D.Digits in
    let s = c.rest-rest.result.now in
    let end = c.front-value.result.1 in
    let ends = comma-there s end (rw (take_rest s end) at c.in_ok-left.ensures.0) in
    rw c.rest-rest.ensures.first (taken_is d.is_digit c.requires.digits.comma c.args.least c.args.most d.BASE d.NAUGHT s c.front-value.ensures ends c.if-end-least.false)

pub returns-clause-left : goal.returns-clause-left
returns-clause-left g c =
    let d = g.D.Digits in
    let s = c.rest-rest.result.now in
    let end = c.front-value.result.1 in
    let here = rw (take_rest s end) at c.in_ok-left.ensures.0 in
    let within = run-within d.is_digit c.requires.digits.comma c.args.least c.args.most d.BASE d.NAUGHT s c.front-value.ensures in
    let comma = run-comma d.is_digit c.requires.digits.comma c.args.least c.args.most d.BASE d.NAUGHT s c.front-value.ensures (comma-there s end here) in
    c.in_ok-left.ensures.1 ∙ same-others s _ end within (take_rest s end) (omega (arith, c.in_ok-left.ensures.0, comma)) ∙ sym c.rest-rest.ensures.others
