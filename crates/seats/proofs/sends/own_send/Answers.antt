-- `sends::own_send` meets its contract: refused by its numbers or for want of room, or sent. Assumes nothing.
use Rattle.std.proofs.lemmas.Result.{err_from_is_err_and}
use mathlib.Core.Path.{sym, ap, ◌∙◌}
use native.Mathlib.Omega.{arith}
use Rattle.machine.specs.Locks.{verdict_of}
use Rattle.machine.specs.State.{Locks}
use Rattle.locks.proofs.Laid.{locks-held, locks-are}
use Rattle.calls.proofs.Away.{send-low}
use Rattle.seats.proofs.Tested.{long_of, laid_of}
use Rattle.seats.proofs.Granting.{ready_of}
use Rattle.seats.proofs.Sending.{send-refused, send-time, send-lacks, send-done}
use Rattle.refusals.proofs.Once.{some_number}
use Rattle.seats.proofs.sends.own_send.Goals as goal

pub send_refusal-requires : goal.send_refusal-requires
send_refusal-requires c = ready_of _ c.requires.0

pub returns-in_err-send_refusal : goal.returns-in_err-send_refusal
returns-in_err-send_refusal c =
    let start = c in
    let e = err_from_is_err_and c.from_residual.result c.from_residual.ensures.1 in
    rw (e.1, e.2) (send-refused _ start.requires.0 start.args.room start.requires.1 start.args.o _ _ _ c.in_err-send_refusal.ensures (some_number _))

pub slice_bounds-verdict-end : goal.slice_bounds-verdict-end
slice_bounds-verdict-end c = omega (arith, long_of _ c.requires.0)

pub verdict-verdict-requires : goal.verdict-verdict-requires
verdict-verdict-requires c = (locks-held (laid_of _ c.requires.0), send-low _ c.args.o _ _ (sym c.in_ok-send_refusal.ensures))

pub lacks-requires : goal.lacks-requires
lacks-requires c = let start = c in (laid_of _ start.requires.0, send-time _ start.requires.0 start.args.room start.requires.1 start.args.o _ _ (sym c.in_ok-send_refusal.ensures), start.requires.1)

pub returns-then-verdict-lacks : goal.returns-then-verdict-lacks
returns-then-verdict-lacks c =
    let start = c in
    send-lacks _ start.requires.0 start.args.room start.requires.1 start.args.o start.args.identity start.args.reports (sym c.in_ok-send_refusal.ensures)
    (c.verdict-verdict.ensures ∙ ap (λ (l : Locks). verdict_of l start.args.o.root) (locks-are (laid_of _ start.requires.0))) c.lacks.ensures c.if-verdict-lacks.true

pub sent-requires : goal.sent-requires
sent-requires c = sym c.in_ok-send_refusal.ensures

pub returns : goal.returns
returns c =
    let start = c in
    send-done _ start.requires.0 start.args.room start.requires.1 start.args.o start.args.identity start.args.reports (sym c.in_ok-send_refusal.ensures)
    (c.verdict-verdict.ensures ∙ ap (λ (l : Locks). verdict_of l start.args.o.root) (locks-are (laid_of _ start.requires.0))) c.lacks.ensures c.if-verdict-lacks.false c.sent.ensures.value c.sent.ensures.m_after
