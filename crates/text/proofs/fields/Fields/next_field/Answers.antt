-- `text::fields::Fields::next_field` meets its contract: the field ends at the first comma, and the others begin behind it. Assumes nothing.
use Rattle.std.proofs.Common.{ℕ, ◌+◌, length, take, drop, sym, ap, ◌∙◌, arith}
use Rattle.std.proofs.lemmas.List.{take_all}
use Rattle.std.proofs.lemmas.List.{take_rest}
use Rattle.text.specs.Text.{fields}
use Rattle.text.proofs.Lists.{first-field, other-fields, no-fields}
use Rattle.text.proofs.fields.Fields.next_field.Goals as goal

pub returns-in_default-clause-value : goal.returns-in_default-clause-value
returns-in_default-clause-value c =
    let s = c.rest-rest.result.now in
    rw (c.rest-rest.ensures.first, first-field s, c.in_default.ensures) (sym (take_all (length s) s (omega arith)))

pub returns-in_default-clause-left : goal.returns-in_default-clause-left
returns-in_default-clause-left c = sym (c.rest-rest.ensures.others ∙ no-fields c.rest-rest.result.now (omega (arith, c.in_default.ensures)))

pub returns-clause-value : goal.returns-clause-value
returns-clause-value c =
    let s = c.rest-rest.result.now in
    rw (c.rest-rest.ensures.first, first-field s) (ap (λ (k : ℕ). take k s) c.in-Some.ensures.0)

pub returns-clause-left : goal.returns-clause-left
returns-clause-left c =
    let s = c.rest-rest.result.now in
    let end = c.in-Some.end in
    ap fields (take_rest s (end + 1)) ∙ ap (λ (k : ℕ). fields (drop (k + 1) s)) c.in-Some.ensures.0 ∙ other-fields s (omega (arith, c.in-Some.ensures.0, c.in-Some.ensures.1)) ∙ sym c.rest-rest.ensures.others
