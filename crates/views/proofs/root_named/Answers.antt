-- `views::root_named` meets its contract: bytes that are no name stand for no root. Assumes nothing.
use Rattle.std.proofs.lemmas.Result.{err_from_is_err_and}
use mathlib.Core.Path.{sym, ap, ◌∙◌}
use Rattle.state.specs.State.{decode}
use Rattle.views.specs.Views.{found_root}
use Rattle.views.proofs.Answers.{named-refused, named-empty, named-is}
use Rattle.refusals.proofs.Once.{some_number}
use Rattle.views.proofs.root_named.Goals as goal

pub returns-in_err-memory_refusal : goal.returns-in_err-memory_refusal
returns-in_err-memory_refusal c =
    let e = err_from_is_err_and c.from_residual.result c.from_residual.ensures.1 in rw (e.1, e.2) (named-refused _ _ c.in_err-memory_refusal.ensures (some_number _) _)

pub returns-then-name-lt1 : goal.returns-then-name-lt1
returns-then-name-lt1 c = named-empty _ (sym c.in_ok-memory_refusal.ensures) _ c.if-name-lt1.true

pub root_of-requires : goal.root_of-requires
root_of-requires c = sym c.in_ok-memory_refusal.ensures

pub returns-in-Some : goal.returns-in-Some
returns-in-Some c = c.root_of.ensures ∙ ap (found_root (decode c.args.m.now).part.profile.roots) (sym c.in-Some.is ∙ c.root_name-number.ensures) ∙ named-is _ (sym c.in_ok-memory_refusal.ensures) _ c.if-name-lt1.false

pub returns-in-None : goal.returns-in-None
unfolding found_root
returns-in-None c = ap (found_root (decode c.args.m.now).part.profile.roots) (sym c.in-None.is ∙ c.root_name-number.ensures) ∙ named-is _ (sym c.in_ok-memory_refusal.ensures) _ c.if-name-lt1.false
