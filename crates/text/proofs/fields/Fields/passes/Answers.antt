-- `text::fields::Fields::passes` meets its contract: the word is the field where a comma or nothing stands behind it. Assumes nothing.
use Rattle.std.proofs.Common.{◌∙◌, sym}
use Rattle.text.proofs.Passing.{too-short, unended, not-begun, is-word, others}
use Rattle.text.proofs.fields.Fields.passes.Goals as goal

pub returns-in_default-clause-value : goal.returns-in_default-clause-value
returns-in_default-clause-value c = rw c.rest.ensures.first (sym (too-short c.rest.result.now c.args.word.now c.in_default.ensures.cases))

pub returns-in_default-behind-clause-value : goal.returns-in_default-behind-clause-value
returns-in_default-behind-clause-value c =
    rw c.rest.ensures.first (sym (unended c.rest.result.now c.args.word.now c.requires c.in-Some.more.now c.in-Some.ensures.cases.2 c.in_default-behind.ensures))

pub returns-then-not-is_same-clause-value : goal.returns-then-not-is_same-clause-value
returns-then-not-is_same-clause-value c =
    let off = rw c.in-Some.ensures.cases.1 at (sym c.is_same.ensures ∙ c.if-not-is_same.true) in
    rw c.rest.ensures.first (sym (not-begun c.rest.result.now c.args.word.now off))

pub returns-clause-value : goal.returns-clause-value
returns-clause-value c =
    let cut = c.in-Some.ensures.cases in
    let begins = rw cut.1 at (sym c.is_same.ensures ∙ c.if-not-is_same.false) in
    rw c.rest.ensures.first (sym (is-word c.rest.result.now c.args.word.now c.requires c.in-Some.more.now begins cut.2 c.in-Some-behind.ensures.0))

pub returns-clause-left : goal.returns-clause-left
returns-clause-left c =
    let cut = c.in-Some.ensures.cases in
    let begins = rw cut.1 at (sym c.is_same.ensures ∙ c.if-not-is_same.false) in
    c.in-Some-behind.ensures.1 ∙ others c.rest.result.now c.args.word.now c.requires c.in-Some.more.now begins cut.2 ∙ sym c.rest.ensures.others
