-- `accounted::apply` meets its contract: what is lent is looked at, and then the event is applied and counted. Assumes nothing.
use mathlib.Core.Path.{sym}
use native.Mathlib.Omega.{arith}
use lib.Seq.{length-take-le}
use Rattle.accounted.specs.Accounted.{call_of}
use Rattle.accounted.proofs.Answered.{short-account, not-account, kept_by, over_by, roomy-by}
use Rattle.accounted.proofs.apply.Goals as goal

pub returns-then-a-lt-SIZE : goal.returns-then-a-lt-SIZE
returns-then-a-lt-SIZE c = let s = c.args in
    let p = short-account s.m.now s.a.now (call_of s.e) c.if-a-lt-SIZE.true in record { value = p.0; m_after = p.1.0; a_after = p.1.1 }

pub slice_bounds-bound-end-2 : goal.slice_bounds-bound-end-2
slice_bounds-bound-end-2 c = sym (length-take-le 520 c.args.a.now c.if-a-lt-SIZE.false)

pub returns-then-bound-gt-MOST : goal.returns-then-bound-gt-MOST
returns-then-bound-gt-MOST c =
    let s = c.args in
    let p = not-account s.m.now s.a.now (call_of s.e) c.if-a-lt-SIZE.false (over_by s.a.now c.if-a-lt-SIZE.false c.bound-bound.ensures c.if-bound-gt-MOST.true) c.without_account.ensures in record { value = p.0; m_after = p.1.0; a_after = p.1.1 }

pub with_room-requires : goal.with_room-requires
with_room-requires c = roomy-by c.args.a.now c.if-a-lt-SIZE.false c.bound-bound.ensures (omega (arith, c.if-bound.true))

pub near_full-requires : goal.near_full-requires
near_full-requires c = kept_by c.args.a.now c.if-a-lt-SIZE.false c.bound-bound.ensures c.if-bound-gt-MOST.false
