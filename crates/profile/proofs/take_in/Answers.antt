-- `profile::take_in` meets its contract: what became of the rule is asked first, and then all is stored. Assumes nothing.
use mathlib.Core.Path.{sym}
use native.Mathlib.Omega.{arith}
use lib.Seq.{length-take-le}
use Rattle.profile.proofs.Admission.{roots-long, rules-long, roots-room, newest-once, own-numbered, refuses, few, own-fits, next-room, takes-known, takes-new}
use Rattle.profile.proofs.take_in.Goals as goal

pub slice_bounds-scope_numbered-end : goal.slice_bounds-scope_numbered-end
slice_bounds-scope_numbered-end c = roots-room c.requires.0.1

pub slice_bounds-scope_numbered-end-2 : goal.slice_bounds-scope_numbered-end-2
slice_bounds-scope_numbered-end-2 c = sym (length-take-le _ _ (roots-room c.requires.0.1))

pub scope_numbered-requires : goal.scope_numbered-requires
scope_numbered-requires c = newest-once c.requires.0.1

pub admit-requires : goal.admit-requires
admit-requires c =
    let held = c.requires.0.1 in
    ((_, held.so_far), own-numbered held c.args.rule c.requires.1 c.scope_numbered.ensures)

pub returns-in_err-next : goal.returns-in_err-next
returns-in_err-next c =
    λ p held.
    rw c.from_residual.ensures
    (refuses held c.args.rule c.requires.1 c.scope_numbered.ensures _ c.in_err-next.was (c.admit.ensures _ held.so_far))

pub put_rule-requires : goal.put_rule-requires
put_rule-requires c =
    let held = c.requires.0.1 in
    let n = c.scope_numbered.ensures in
    let w = c.admit.ensures _ held.so_far in
    (rules-long held, few held c.args.rule c.requires.1 n _ _ c.in_ok-next.was w, own-fits held c.args.rule c.requires.1 n _ _ c.in_ok-next.was w)

pub returns-then-next-tally : goal.returns-then-next-tally
returns-then-next-tally c =
    λ p held.
    takes-known held c.args.rule c.requires.1 c.scope_numbered.ensures _ _ c.in_ok-next.was (c.admit.ensures _ held.so_far)
    c.if-next-tally.true c.put_rule.ensures

pub bounds-roots-known : goal.bounds-roots-known
bounds-roots-known c =
    let held = c.requires.0.1 in
    omega (arith, roots-long held, next-room held c.args.rule c.requires.1 c.scope_numbered.ensures _ _ c.in_ok-next.was (c.admit.ensures _ held.so_far) c.if-next-tally.false)

pub returns : goal.returns
returns c =
    λ p held.
    takes-new held c.args.rule c.requires.1 c.scope_numbered.ensures _ _ c.in_ok-next.was (c.admit.ensures _ held.so_far)
    c.if-next-tally.false c.root_number.ensures c.put_rule.ensures
