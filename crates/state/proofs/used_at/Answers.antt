-- `state::used_at` meets its contract: the entries inside and the kept places are added, if there is a rate rule. Assumes nothing.
use mathlib.Core.Path.{◌≡◌, sym, ap, ap₂, ◌∙◌, subst}
use mathlib.Core.List.{List}
use native.Mathlib.Omega.{arith}
use Prim.Native.Nat.{ℕ, ◌+◌, ◌≤◌}
use lib.ListN.{length}
use Rattle.machine.specs.declared.Entry.{Entry}
use Rattle.machine.specs.Entries.{are_ordered, recent, is_recent}
use Rattle.daylog.specs.Inner.Log.{entries_in}
use Rattle.state.specs.Inner.Tests.{log_part}
use Rattle.machine.specs.Register.{kept_places}
use Rattle.machine.proofs.Lists.{keep-le}
use Rattle.state.specs.State.{decode}
use Rattle.state.proofs.Laid.{laid-held, laid-entries, laid-orders, laid-sent}
use Rattle.state.proofs.Uses.{kept-most, used-none, used-both, window-most}
use Rattle.state.proofs.used_at.Goals as goal

pub returns-then-longest-eq0 : goal.returns-then-longest-eq0
returns-then-longest-eq0 c =
    let start = c in
    used-none start.requires.0.fits (sym c.longest_window-longest.ensures ∙ c.if-longest-eq0.true) start.args.time

pub recent_entries-inside-requires : goal.recent_entries-inside-requires
recent_entries-inside-requires c =
    let start = c in
    let laid = start.requires.0 in (
      laid-held laid,
      subst (λ (n : ℕ). n ≤ 86_400_000) (sym c.longest_window-longest.ensures) (window-most laid.fits),
      ap (are_ordered 0 start.args.time) (laid-entries laid) ∙ start.requires.1,
    )

pub kept-requires : goal.kept-requires
kept-requires c = laid-orders c.requires.0

pub overflow_add-result : goal.overflow_add-result
unfolding recent
overflow_add-result c =
    let start = c in
    let laid = start.requires.0 in
    let kept : c.kept.result ≡ kept_places (decode start.args.m.now).part.register = c.kept.ensures ∙ ap kept_places (laid-sent laid) in
    let inside = c.recent_entries-inside.ensures in
    omega (arith, inside, keep-le (is_recent c.longest_window-longest.result start.args.time) (entries_in (log_part start.args.m.now)), ap length (laid-entries laid), laid.fits.log, kept, kept-most laid.fits)

pub returns : goal.returns
returns c =
    let start = c in
    let laid = start.requires.0 in
    let longest = c.longest_window-longest.ensures in
    ap₂ (λ (a b : ℕ). a + b)
    (c.recent_entries-inside.ensures ∙ ap₂ (λ (w : ℕ) (l : List Entry). length (recent w start.args.time l)) longest (laid-entries laid))
    (c.kept.ensures ∙ ap kept_places (laid-sent laid))
    ∙ used-both laid.fits (λ z. c.if-longest-eq0.false (longest ∙ z)) start.args.time
