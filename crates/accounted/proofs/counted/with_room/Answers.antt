-- `accounted::counted::with_room` meets its contract: the plain call goes first, and is counted where it is not refused. Assumes nothing.
use mathlib.Core.Path.{◌∙◌}
use Rattle.std.proofs.lemmas.Result.{err_from_is_err_and}
use Rattle.machine.proofs.Told.{told_accepted, told_refused}
use Rattle.accounted.specs.Accounted.{call_of}
use Rattle.accounted.proofs.Answered.{plain-refused, left-refused, left_laid, told, countable, done-by, room_for}
use Rattle.accounted.proofs.counted.with_room.Goals as goal

pub returns-in_err-accepted : goal.returns-in_err-accepted
returns-in_err-accepted c =
    let s = c in
    let e = err_from_is_err_and c.from_residual.result c.from_residual.ensures.1 in
    let refused = told_refused c.in_err-accepted.field-0.0 in
    let call = c.in_err-accepted in
    let p = plain-refused s.args.m.now s.args.a.now (call_of s.args.e) s.requires.kept call.ensures.value refused in record { value = rw (e.1, e.2) p.0; m_after = left-refused s.args.m.now (call_of s.args.e) call.ensures.value call.ensures.m_after refused ∙ p.1.0; a_after = p.1.1 }

pub happening-requires : goal.happening-requires
happening-requires c =
    let s = c in
    left_laid s.args.m.now (call_of s.args.e) c.in_ok-accepted.ensures.value c.in_ok-accepted.ensures.m_after (told_accepted c.in_ok-accepted.accepted)

pub count-requires : goal.count-requires
count-requires c =
    let s = c in
    let free = told_accepted c.in_ok-accepted.accepted in
    let was = told s.args.m.now (call_of s.args.e) c.in_ok-accepted.ensures.value c.in_ok-accepted.ensures.m_after free c.happening.ensures in
    countable s.args.m.now (call_of s.args.e) c.in_ok-accepted.ensures.value c.in_ok-accepted.ensures.m_after free s.args.a.now s.requires.kept was

pub returns : goal.returns
returns c =
    let s = c in
    let free = told_accepted c.in_ok-accepted.accepted in
    let was = told s.args.m.now (call_of s.args.e) c.in_ok-accepted.ensures.value c.in_ok-accepted.ensures.m_after free c.happening.ensures in
    let counts = countable s.args.m.now (call_of s.args.e) c.in_ok-accepted.ensures.value c.in_ok-accepted.ensures.m_after free s.args.a.now s.requires.kept was in
    let p = done-by s.args.m.now (call_of s.args.e) c.in_ok-accepted.ensures.value c.in_ok-accepted.ensures.m_after free s.args.a.now s.requires.kept was (room_for s.requires counts) c.count.ensures in record { value = p.0; m_after = p.1.0; a_after = p.1.1 }
