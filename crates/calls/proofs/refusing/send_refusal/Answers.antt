-- `calls::send_refusal` meets its contract: it is the first number that the memory or the machine refuses with. Assumes nothing.
use Rattle.std.proofs.lemmas.Result.{err_from_is_err_and}
use mathlib.Core.Path.{refl, sym, ◌∙◌}
use mathlib.Core.Bool.{true, false, not}
use Rattle.calls.proofs.Steps.{laid}
use Rattle.calls.proofs.Timed.{timed-ready}
use Rattle.calls.proofs.AwayTests.{send-timed, send-known, send-priced, send-is, send-met, send-full, send-free}
use mathlib.Core.Path.{ap}
use Rattle.refusals.proofs.Once.{some_number}
use Rattle.calls.proofs.refusing.send_refusal.Goals as goal

pub returns-in_err-timed_refusal : goal.returns-in_err-timed_refusal
returns-in_err-timed_refusal c =
    let e = err_from_is_err_and c.from_residual.result c.from_residual.ensures.1 in rw (e.1, e.2) (send-timed _ c.args.o _ _ _ c.in_err-timed_refusal.ensures (some_number _))

pub roots_in-requires : goal.roots_in-requires
roots_in-requires c = laid _ (timed-ready _ _ (sym c.in_ok-timed_refusal.ensures))

pub returns-then-not-o-roots_in : goal.returns-then-not-o-roots_in
returns-then-not-o-roots_in c =
    let a = c.args in
    let known = send-known a.m.now a.o a.identity a.reports _ c.roots_in.ensures _ _ true c.is_in.ensures c.is_in-2.ensures (ap not c.if-not-o-roots_in.true) in
    send-is a.m.now a.o a.identity a.reports (sym c.in_ok-timed_refusal.ensures) true _ _ _ _ known refl refl refl refl

pub returns-then-not-is_priced-is_in : goal.returns-then-not-is_priced-is_in
returns-then-not-is_priced-is_in c =
    let a = c.args in
    let known = send-known a.m.now a.o a.identity a.reports _ c.roots_in.ensures _ _ false c.is_in.ensures c.is_in-2.ensures (ap not c.if-not-o-roots_in.false) in
    let priced = send-priced a.m.now a.o a.identity a.reports _ _ true c.is_priced.ensures c.is_in-3.ensures (ap not c.if-not-is_priced-is_in.true) in
    send-is a.m.now a.o a.identity a.reports (sym c.in_ok-timed_refusal.ensures) false true _ _ _ known priced refl refl refl

pub orders_in-requires : goal.orders_in-requires
orders_in-requires c = laid _ (timed-ready _ _ (sym c.in_ok-timed_refusal.ensures))

pub returns-then-orders_in-ge-PLACES : goal.returns-then-orders_in-ge-PLACES
returns-then-orders_in-ge-PLACES c =
    let a = c.args in
    let known = send-known a.m.now a.o a.identity a.reports _ c.roots_in.ensures _ _ false c.is_in.ensures c.is_in-2.ensures (ap not c.if-not-o-roots_in.false) in
    let priced = send-priced a.m.now a.o a.identity a.reports _ _ false c.is_priced.ensures c.is_in-3.ensures (ap not c.if-not-is_priced-is_in.false) in
    let full = send-full a.m.now a.o a.identity a.reports c.orders_in.ensures c.if-orders_in-ge-PLACES.true in
    send-is a.m.now a.o a.identity a.reports (sym c.in_ok-timed_refusal.ensures) false false true _ _ known priced full refl refl

pub is_open-requires : goal.is_open-requires
is_open-requires c = laid _ (timed-ready _ _ (sym c.in_ok-timed_refusal.ensures))

pub returns-then-is_open : goal.returns-then-is_open
returns-then-is_open c =
    let a = c.args in
    let known = send-known a.m.now a.o a.identity a.reports _ c.roots_in.ensures _ _ false c.is_in.ensures c.is_in-2.ensures (ap not c.if-not-o-roots_in.false) in
    let priced = send-priced a.m.now a.o a.identity a.reports _ _ false c.is_priced.ensures c.is_in-3.ensures (ap not c.if-not-is_priced-is_in.false) in
    let free = send-free a.m.now a.o a.identity a.reports c.orders_in.ensures c.if-orders_in-ge-PLACES.false in
    send-is a.m.now a.o a.identity a.reports (sym c.in_ok-timed_refusal.ensures) false false false true _ known priced free (sym c.is_open.ensures ∙ c.if-is_open.true) refl

pub lacks_places-requires : goal.lacks_places-requires
lacks_places-requires c =
    let a = c.args in
    let known = send-known a.m.now a.o a.identity a.reports _ c.roots_in.ensures _ _ false c.is_in.ensures c.is_in-2.ensures (ap not c.if-not-o-roots_in.false) in
    let priced = send-priced a.m.now a.o a.identity a.reports _ _ false c.is_priced.ensures c.is_in-3.ensures (ap not c.if-not-is_priced-is_in.false) in
    send-met a.m.now a.o a.identity a.reports (sym c.in_ok-timed_refusal.ensures) known priced

pub returns-then-lacks_places : goal.returns-then-lacks_places
returns-then-lacks_places c =
    let a = c.args in
    let known = send-known a.m.now a.o a.identity a.reports _ c.roots_in.ensures _ _ false c.is_in.ensures c.is_in-2.ensures (ap not c.if-not-o-roots_in.false) in
    let priced = send-priced a.m.now a.o a.identity a.reports _ _ false c.is_priced.ensures c.is_in-3.ensures (ap not c.if-not-is_priced-is_in.false) in
    let free = send-free a.m.now a.o a.identity a.reports c.orders_in.ensures c.if-orders_in-ge-PLACES.false in
    send-is a.m.now a.o a.identity a.reports (sym c.in_ok-timed_refusal.ensures) false false false false true known priced free (sym c.is_open.ensures ∙ c.if-is_open.false) (sym c.lacks_places.ensures ∙ c.if-lacks_places.true)

pub returns : goal.returns
returns c =
    let a = c.args in
    let known = send-known a.m.now a.o a.identity a.reports _ c.roots_in.ensures _ _ false c.is_in.ensures c.is_in-2.ensures (ap not c.if-not-o-roots_in.false) in
    let priced = send-priced a.m.now a.o a.identity a.reports _ _ false c.is_priced.ensures c.is_in-3.ensures (ap not c.if-not-is_priced-is_in.false) in
    let free = send-free a.m.now a.o a.identity a.reports c.orders_in.ensures c.if-orders_in-ge-PLACES.false in
    send-is a.m.now a.o a.identity a.reports (sym c.in_ok-timed_refusal.ensures) false false false false false known priced free (sym c.is_open.ensures ∙ c.if-is_open.false) (sym c.lacks_places.ensures ∙ c.if-lacks_places.false)
