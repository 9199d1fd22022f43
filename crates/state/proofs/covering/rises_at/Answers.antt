-- `state::covering::rises_at` meets its contract: a rate rule's total does not rise. Assumes nothing.
use mathlib.Core.Path.{sym, ap, ◌∙◌}
use mathlib.Core.Bool.{Bool, not, ◌&&◌}
use borrow.Author.Tests.{eq-eqb, ne_eqb}
use Rattle.rules.specs.Units.{of_unit}
use Rattle.machine.specs.Offers.{covers_offer}
use Rattle.machine.specs.Remaining.{rule_numbered}
use Rattle.machine.specs.State.{rules_in}
use Rattle.state.specs.State.{decode}
use Rattle.state.proofs.covering.rises_at.Goals as goal

pub returns-then-scope_word-eq0 : goal.returns-then-scope_word-eq0
returns-then-scope_word-eq0 c =
    let s = c in
    let covered = covers_offer s.args.o (of_unit (rule_numbered (rules_in (decode s.args.m.now)) s.args.i) s.args.o.unit) in
    sym (ap (λ (b : Bool). not b && covered) (c.scope_word.ensures.1 ∙ eq-eqb _ 0 c.if-scope_word-eq0.true))

pub returns : goal.returns
returns c =
    let s = c in
    let covered = covers_offer s.args.o (of_unit (rule_numbered (rules_in (decode s.args.m.now)) s.args.i) s.args.o.unit) in
    c.covers_at.ensures ∙ sym (ap (λ (b : Bool). not b && covered) (c.scope_word.ensures.1 ∙ ne_eqb _ 0 c.if-scope_word-eq0.false))
