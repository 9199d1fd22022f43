-- `state::uses_less` meets its contract: the use is no more than all entries and the kept places. Assumes nothing.
use mathlib.Core.Path.{◌≡◌, sym, ap, ◌∙◌}
use native.Mathlib.Omega.{arith}
use Prim.Native.Nat.{ℕ}
use lib.Dec.{ltb}
use borrow.Author.Tests.{lt-ltb}
use Rattle.machine.specs.Register.{kept_places}
use Rattle.machine.specs.Refusals.{used}
use Rattle.state.specs.State.{decode}
use Rattle.state.proofs.Laid.{laid-orders, laid-sent}
use Rattle.state.proofs.Uses.{kept-most, used-most}
use Rattle.state.proofs.uses_less.Goals as goal

pub kept-requires : goal.kept-requires
kept-requires c = laid-orders c.requires.0

pub overflow_add-entries_in : goal.overflow_add-entries_in
overflow_add-entries_in c =
    let start = c in
    let laid = start.requires.0 in
    let kept : c.kept.result ≡ kept_places (decode start.args.m.now).part.register = c.kept.ensures ∙ ap kept_places (laid-sent laid) in
    omega (arith, c.entries_in.ensures, laid.fits.log, kept, kept-most laid.fits)

pub returns-then-entries_in-kept : goal.returns-then-entries_in-kept
returns-then-entries_in-kept c =
    let start = c in
    let laid = start.requires.0 in
    let kept : c.kept.result ≡ kept_places (decode start.args.m.now).part.register = c.kept.ensures ∙ ap kept_places (laid-sent laid) in
    sym (lt-ltb (used (decode start.args.m.now) start.args.time) start.args.bound (omega (arith, used-most laid.fits start.args.time, c.entries_in.ensures, kept, c.if-entries_in-kept.true)))

pub returns : goal.returns
returns c = let start = c in ap (λ (n : ℕ). ltb n start.args.bound) c.used_at.ensures
