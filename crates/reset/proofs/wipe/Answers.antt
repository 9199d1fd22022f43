-- `reset::wipe` meets its contract: the accounts of the first i rules are wiped, and the others stand as they were. Assumes nothing.
use Prim.Native.Nat.{◌+◌, ◌-◌, ◌<◌}
use mathlib.Core.Path.{◌≡◌, refl, sym, ap, ◌∙◌}
use mathlib.Core.List.{List}
use native.Mathlib.Omega.{arith}
use lib.ListN.{length}
use Rattle.rules.specs.declared.Rule.{Rule}
use Rattle.machine.specs.State.{rules_in, cells_of}
use Rattle.machine.specs.Remaining.{first_cell}
use Rattle.machine.specs.Effects.{zeroing}
use Rattle.state.specs.State.{decode}
use Rattle.state.proofs.Walked.{place-within, walked}
use Rattle.state.proofs.After.{held-laid, held-length}
use Rattle.state.proofs.Done.{doing-none, doing-rules, doing-all}
use Rattle.state.proofs.Between.{doing-between}
use Rattle.reset.proofs.Wipes.{wiped-fair, place-next}
use Rattle.reset.proofs.wipe.Goals as goal

pub loop-i-init : goal.loop-i-init
unfolding cells_of
loop-i-init c =
    let start = c in
    (c.rules_in-rules.ensures, refl, doing-none (wiped-fair (zeroing start.args.effect start.args.root)) start.requires)

pub wipe_rule-place-requires : goal.wipe_rule-place-requires
wipe_rule-place-requires c =
    let at-loop = c in
    let inv = at-loop.loop-i.invariant in
    let start = at-loop in
    let same = doing-rules (wiped-fair (zeroing start.args.effect start.args.root)) start.requires inv.2 in
    (held-laid inv.2.holds, omega (arith, inv.0, ap length same, c.loop-i-test.true), inv.1 ∙ ap (λ (l : List Rule). first_cell l at-loop.loop-i.i) (sym same))

pub loop-i-preserved : goal.loop-i-preserved
loop-i-preserved c =
    let at-rule = c in
    let at-loop = at-rule in
    let inv = at-loop.loop-i.invariant in
    let start = at-loop in
    let fair = wiped-fair (zeroing start.args.effect start.args.root) in
    let low : at-loop.loop-i.i < length (rules_in (decode start.args.m.now)) = omega (arith, inv.0, at-rule.loop-i-test.true) in
    let to : at-rule.wipe_rule-place.result ≡ first_cell (rules_in (decode start.args.m.now)) (at-loop.loop-i.i + 1) =
    at-rule.wipe_rule-place.ensures.value ∙ ap (λ (l : List Rule). first_cell l (at-loop.loop-i.i + 1)) (doing-rules fair start.requires inv.2) in (
      inv.0,
      to,
      doing-between fair start.requires inv.2 (omega (arith, place-next start.requires low inv.1 to)) (place-within start.requires (at-loop.loop-i.i + 1) to) at-rule.wipe_rule-place.ensures.m_after,
    )

pub shape_of-m : goal.shape_of-m
shape_of-m c = held-length c.loop-i.invariant.2.holds c.requires.long

pub returns : goal.returns
returns c =
    let inv = c.loop-i.invariant in
    let start = c in
    let all = walked start.requires {r = c.loop-i.i} inv.1 (omega (arith, inv.0, c.loop-i-test.false)) in
    doing-all (wiped-fair (zeroing start.args.effect start.args.root)) start.requires inv.2 all
