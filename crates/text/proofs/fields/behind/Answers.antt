-- `text::fields::behind` meets its contract: the fields that are left begin behind the comma, if there is one. Assumes nothing.
use Rattle.std.proofs.Common.{ℕ, ◌≡◌, ◌+◌, drop, length, sym, ap, ◌∙◌, arith}
use Rattle.text.specs.Text.{fields, index_of}
use Rattle.text.proofs.Lists.{index-hit, index-miss, other-fields, no-fields}
use Rattle.text.proofs.Passing.{at-once}
use Rattle.text.proofs.fields.behind.Goals as goal

pub returns-in_default : goal.returns-in_default
returns-in_default c =
    let none = c.in_default.ensures.cases in
    (at-once c.args.more.now (λ h. absurd (omega (arith, none))), sym (no-fields c.args.more.now (omega (arith, none))))

pub returns-then-first-ne44 : goal.returns-then-first-ne44
returns-then-first-ne44 c =
    rw c.in-Some.ensures.cases.0 (omega (arith, index-miss 44 c.in-Some.first.now c.in-Some.others.now c.if-first-ne44.true))

pub returns : goal.returns
returns c =
    let s = c.args.more.now in
    let is = c.in-Some.ensures.cases in
    let comma : 0 ≡ index_of 44 s = sym (ap (index_of 44) is.0 ∙ index-hit 44 c.in-Some.first.now c.in-Some.others.now c.if-first-ne44.false) in
    (comma, ap fields (sym (ap (drop 1) is.0)) ∙ ap (λ (k : ℕ). fields (drop (k + 1) s)) comma ∙ other-fields s (omega (arith, comma, ap length is.0)))
