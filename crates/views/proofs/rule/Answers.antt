-- `views::rule` meets its contract: a rule is told from where it stands in the table. Assumes nothing.
use Rattle.std.proofs.lemmas.Result.{err_from_is_err_and}
use native.Mathlib.Omega.{arith}
use mathlib.Core.Path.{sym, ap, ◌∙◌}
use Rattle.std.specs.declared.result.Result.TheVariants.{Ok}
use Rattle.views.proofs.Held.{laid}
use Rattle.views.proofs.Answers.{rule-refused, rule-unknown, rule_told_lem}
use Rattle.refusals.proofs.Once.{some_number}
use Rattle.views.proofs.rule.Goals as goal

pub returns-in_err-memory_refusal : goal.returns-in_err-memory_refusal
returns-in_err-memory_refusal c =
    let e = err_from_is_err_and c.from_residual.result c.from_residual.ensures.1 in rw (e.1, e.2) (rule-refused _ _ c.in_err-memory_refusal.ensures (some_number _) _)

pub rules_in-requires : goal.rules_in-requires
rules_in-requires c = laid _ (sym c.in_ok-memory_refusal.ensures)

pub returns-then-rules_in-rule : goal.returns-then-rules_in-rule
returns-then-rules_in-rule c = rule-unknown _ (sym c.in_ok-memory_refusal.ensures) _ c.rules_in.ensures _ c.if-rules_in-rule.true

pub rule_in-requires : goal.rule_in-requires
rule_in-requires c = (laid _ (sym c.in_ok-memory_refusal.ensures), omega (arith, c.rules_in.ensures, c.if-rules_in-rule.false))

pub returns : goal.returns
returns c = ap Ok c.terms_in.ensures ∙ rule_told_lem _ (sym c.in_ok-memory_refusal.ensures) _ c.rules_in.ensures _ c.if-rules_in-rule.false _ c.rule_in.ensures
