-- `accounted::counted::near_full` meets its contract: the plain call is tried on a copy, and counts where the figures fit. Assumes nothing.
use Prim.Native.Nat.{ℕ}
use mathlib.Core.Path.{refl, sym, ap, ◌∙◌}
use mathlib.Core.List.{◌++◌}
use lib.ListN.{drop}
use borrow.Author.Tests.{not-true, not-false}
use Rattle.std.proofs.lemmas.Result.{err_from_is_err_and}
use Rattle.machine.proofs.Told.{told_accepted, told_refused}
use Rattle.accounted.specs.Accounted.{call_of}
use Rattle.accounted.proofs.Answered.{short-memory, plain-refused, left_laid, countable, done-by, passed-by, copy-answer, copy-memory, copy-long, copy_told}
use mathlib.Core.Bool.{not}
use Rattle.accounted.proofs.counted.near_full.Goals as goal

pub returns-then-m-lt-SIZE : goal.returns-then-m-lt-SIZE
returns-then-m-lt-SIZE c = let s = c.args in
    let p = short-memory s.m.now s.a.now (call_of s.e) c.if-m-lt-SIZE.true in record { value = p.0; m_after = p.1.0; a_after = p.1.1 }

pub returns-in_err-accepted : goal.returns-in_err-accepted
returns-in_err-accepted c =
    let s = c in
    let e = err_from_is_err_and c.from_residual.result c.from_residual.ensures.1 in
    let xs = s.args.m.now in
    let account = s.args.a.now in
    let call = call_of s.args.e in
    let long = c.if-m-lt-SIZE.false in
    let is = copy-answer xs account call long c.copied-trial.ensures c.in_err-accepted.ensures.value c.in_err-accepted.ensures.m_after in
    let p = plain-refused xs account call s.requires is (told_refused c.in_err-accepted.field-0.0) in record { value = rw (e.1, e.2) p.0; m_after = p.1.0; a_after = p.1.1 }

pub happening-h-requires : goal.happening-h-requires
happening-h-requires c = left_laid _ (call_of c.args.e) c.in_ok-accepted.ensures.value c.in_ok-accepted.ensures.m_after (told_accepted c.in_ok-accepted.accepted)

pub fits-requires : goal.fits-requires
fits-requires c =
    let s = c in
    let xs = s.args.m.now in
    let account = s.args.a.now in
    let call = call_of s.args.e in
    let long = c.if-m-lt-SIZE.false in
    let is = copy-answer xs account call long c.copied-trial.ensures c.in_ok-accepted.ensures.value c.in_ok-accepted.ensures.m_after in
    let free = told_accepted c.in_ok-accepted.accepted in
    let was = copy_told xs account call long c.copied-trial.ensures c.in_ok-accepted.ensures.value c.in_ok-accepted.ensures.m_after free c.happening-h.ensures in
    countable xs call is refl free account s.requires was

pub returns-then-not-fits : goal.returns-then-not-fits
returns-then-not-fits c =
    let s = c in
    let xs = s.args.m.now in
    let account = s.args.a.now in
    let call = call_of s.args.e in
    let long = c.if-m-lt-SIZE.false in
    let is = copy-answer xs account call long c.copied-trial.ensures c.in_ok-accepted.ensures.value c.in_ok-accepted.ensures.m_after in
    let free = told_accepted c.in_ok-accepted.accepted in
    let was = copy_told xs account call long c.copied-trial.ensures c.in_ok-accepted.ensures.value c.in_ok-accepted.ensures.m_after free c.happening-h.ensures in
    let p = passed-by xs call is refl free account s.requires was (sym c.fits.ensures ∙ not-true _ (ap not c.if-not-fits.true)) in record { value = p.0; m_after = p.1.0; a_after = p.1.1 }

pub count-requires : goal.count-requires
count-requires c =
    let s = c in
    let xs = s.args.m.now in
    let account = s.args.a.now in
    let call = call_of s.args.e in
    let long = c.if-m-lt-SIZE.false in
    let is = copy-answer xs account call long c.copied-trial.ensures c.in_ok-accepted.ensures.value c.in_ok-accepted.ensures.m_after in
    let free = told_accepted c.in_ok-accepted.accepted in
    let was = copy_told xs account call long c.copied-trial.ensures c.in_ok-accepted.ensures.value c.in_ok-accepted.ensures.m_after free c.happening-h.ensures in
    countable xs call is refl free account s.requires was

pub returns : goal.returns
returns c =
    let s = c in
    let xs = s.args.m.now in
    let account = s.args.a.now in
    let call = call_of s.args.e in
    let long = c.if-m-lt-SIZE.false in
    let is = copy-answer xs account call long c.copied-trial.ensures c.in_ok-accepted.ensures.value c.in_ok-accepted.ensures.m_after in
    let free = told_accepted c.in_ok-accepted.accepted in
    let was = copy_told xs account call long c.copied-trial.ensures c.in_ok-accepted.ensures.value c.in_ok-accepted.ensures.m_after free c.happening-h.ensures in
    let whole = copy-long xs account call long c.copied-trial.ensures c.in_ok-accepted.ensures.value c.in_ok-accepted.ensures.m_after free in
    let left = c.copy.ensures ∙ ap (λ (n : ℕ). c.call.new.m ++ drop n xs) whole ∙ copy-memory xs account call long c.copied-trial.ensures c.in_ok-accepted.ensures.value c.in_ok-accepted.ensures.m_after free in
    let p = done-by xs call is left free account s.requires was (sym c.fits.ensures ∙ not-false _ (ap not c.if-not-fits.false)) c.count.ensures in record { value = p.0; m_after = p.1.0; a_after = p.1.1 }
