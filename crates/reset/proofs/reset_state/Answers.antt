-- `reset::reset_state` meets its contract: the clock moves and the locks are lifted; where anything is zeroed, the totals are wiped and the log's flags
-- cleared. Assumes nothing.
use mathlib.Core.Path.{ap, ◌∙◌}
use Rattle.machine.specs.declared.Effect.{Effect}
use Rattle.machine.specs.Deeds.{resetting}
use Rattle.machine.specs.Step.{after}
use Rattle.state.specs.State.{stored, decode}
use Rattle.state.proofs.Laid.{laid-held}
use Rattle.locks.proofs.Laid.{locks-held}
use Rattle.reset.proofs.Resets.{moved-laid, light-laid, emptied-laid, zeroes-neither, unlocked-stored, reset-stored}
use Rattle.reset.proofs.reset_state.Reads as reads
use Rattle.reset.proofs.reset_state.Lts as lts
use Rattle.locks.proofs.lift.Reads as lift-reads
use Rattle.daylog.proofs.unflag.Reads as unflag-reads
use Rattle.reset.proofs.effect_of.Reads as effect-of-reads
use Rattle.reset.proofs.wipe.Reads as wipe-reads
use Rattle.state.proofs.put_clock.Reads as put-clock-reads
use mathlib.Core.Bool.{not}
use Rattle.reset.proofs.reset_state.Goals as goal

pub lift-requires : goal.lift-requires
lift-requires c =
    let start = c in
    (locks-held (moved-laid start.requires.0 start.args.time c.put_clock.ensures), start.requires.1)

pub returns-then-not-effect : goal.returns-then-not-effect
returns-then-not-effect c =
    let start = c in
    let a = start.args in
    let e = c.effect_of-effect.result in
    unlocked-stored start.requires.0 a.time c.put_clock.ensures a.root e c.lift.ensures start.requires.2 (zeroes-neither e (ap not c.if-not-effect.true))
    ∙ ap (λ (e : Effect). stored (after (resetting a.time a.root e) (decode a.m.now)) a.m.now) c.effect_of-effect.ensures

pub wipe-requires : goal.wipe-requires
wipe-requires c =
    let start = c in
    let a = start.args in
    let e = c.effect_of-effect.result in
    light-laid start.requires.0 a.time c.put_clock.ensures a.root e c.lift.ensures

pub unflag-requires : goal.unflag-requires
unflag-requires c =
    let start = c in
    let a = start.args in
    let e = c.effect_of-effect.result in
    laid-held (emptied-laid start.requires.0 a.time c.put_clock.ensures a.root e c.lift.ensures c.wipe.ensures)

pub returns : goal.returns
returns c =
    let start = c in
    let a = start.args in
    let e = c.effect_of-effect.result in
    reset-stored start.requires.0 a.time c.put_clock.ensures a.root e c.lift.ensures c.wipe.ensures c.unflag.ensures
    ∙ ap (λ (e : Effect). stored (after (resetting a.time a.root e) (decode a.m.now)) a.m.now) c.effect_of-effect.ensures
