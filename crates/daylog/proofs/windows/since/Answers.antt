-- `daylog::since` meets its contract: those from a place on are passed, with those that are still to be passed before it. Each turn looks at four entries at
-- most, and all that were looked at so far are passed, so these and what is still to be looked at are as many as the reading looks at. Assumes nothing.
use Prim.Native.Nat.{ℕ, ◌+◌, ◌*◌, ◌-◌, ◌/◌, ◌≤◌}
use mathlib.Core.Path.{◌≡◌, sym, ap, ◌∙◌}
use mathlib.Core.Bool.{true}
use native.Mathlib.Omega.{arith}
use lib.ListN.{length}
use Rattle.laws.specs.Folds.{keep}
use Rattle.tables.proofs.Tables.{length-places}
use Rattle.machine.specs.Entries.{are_ordered}
use Rattle.daylog.specs.Inner.Log.{entries_of}
use Rattle.daylog.specs.Newest.{is_since, newest}
use Rattle.daylog.proofs.Logs.{codec}
use Rattle.daylog.proofs.Newest.{newest-most, few-looked-at}
use Rattle.daylog.proofs.Readings.{newest-all}
use Rattle.daylog.proofs.windows.since.Goals.{At-loop-turn}
use Rattle.daylog.proofs.windows.since.Goals as goal

-- so its turns pass no more entries than there are that are not before the time, and one
few-looks : (c : At-loop-turn) (clock : ℕ) → are_ordered 0 clock (entries_of c.args.k c.args.log.now) ≡ true
    → c.loop-turn.turn * 4 ≤ length (keep (is_since c.args.first) (entries_of c.args.k c.args.log.now)) + 1
few-looks c clock ordered = omega (arith, c.loop-turn.invariant.looks, few-looked-at c.args.first 0 clock (entries_of c.args.k c.args.log.now) ordered)

pub returns-then-first-eq0 : goal.returns-then-first-eq0
returns-then-first-eq0 c =
    let a = c.args in
    let es = entries_of a.k a.log.now in
    sym (ap (λ (n : ℕ). length (newest n es)) c.if-first-eq0.true ∙ newest-all es ∙ length-places codec a.k a.log.now)

pub overflow_add-result-2 : goal.overflow_add-result-2
overflow_add-result-2 c =
    let a = c.args in
    let all : c.loop-turn.turn ≡ a.k / 4 = omega arith in
    let rest = ap (λ (n : ℕ). length (newest a.first (entries_of (a.k - n * 4) a.log.now))) all in
    omega (arith, rest, c.loop-turn.invariant.passes, c.singly.ensures, newest-most a.first (entries_of a.k a.log.now), length-places codec a.k a.log.now, c.requires.0.fits)
