-- `daylog::singly` meets its contract: those from a place on are passed, with those that are still to be passed before it. Each turn looks at one entry, so
-- the turns made and the entries still to be looked at are as many as the reading looks at. Assumes nothing.
use Prim.Native.Nat.{ℕ, ◌+◌, ◌*◌, ◌-◌, ◌≤◌}
use mathlib.Core.Path.{◌≡◌, refl, ap}
use mathlib.Core.Bool.{true, false}
use native.Mathlib.Omega.{arith}
use lib.ListN.{length, drop}
use Rattle.laws.specs.Folds.{keep}
use Rattle.packing.specs.EntryPlace.{entry_at}
use Rattle.machine.specs.Entries.{are_ordered}
use Rattle.daylog.specs.Inner.Log.{entries_of}
use Rattle.daylog.specs.Newest.{is_since}
use Rattle.daylog.proofs.Newest.{few-looked-at, read-on, read-stop, read-less, read-end}
use Rattle.daylog.proofs.Sifting.{place-since, place-before}
use Rattle.daylog.proofs.windows.singly.Goals.{At-loop-i, Then-log-at, Else-log-at}
use Rattle.daylog.proofs.windows.singly.Goals as goal

-- so it makes no more turns than there are entries that are not before the time, and one
few-turns : (c : At-loop-i) (clock : ℕ) → are_ordered 0 clock (entries_of c.args.k c.args.log.now) ≡ true
    → c.args.k - c.loop-i.i ≤ length (keep (is_since c.args.first) (entries_of c.args.k c.args.log.now)) + 1
few-turns c clock ordered = omega (arith, c.loop-i.invariant.looks, few-looked-at c.args.first 0 clock (entries_of c.args.k c.args.log.now) ordered)

-- the next entry's first number tells whether it is before the time
before : (c : Then-log-at) → is_since c.args.first (entry_at (drop ((c.loop-i.i - 1) * 2) c.args.log.now)) ≡ false
before c = place-before _ (c.loop-i.i - 1) c.requires.1.1 (omega (arith, c.requires.1.2, c.loop-i.auto.i)) (omega (arith, c.if-log-at.true))

not-before : (c : Else-log-at) → is_since c.args.first (entry_at (drop ((c.loop-i.i - 1) * 2) c.args.log.now)) ≡ true
not-before c = place-since _ (c.loop-i.i - 1) c.requires.1.1 (omega (arith, c.requires.1.2, c.loop-i.auto.i)) (omega (arith, c.if-log-at.false))

pub returns-then-log-at : goal.returns-then-log-at
returns-then-log-at c =
    let a = c.args in
    omega (arith, c.loop-i.invariant.passes, ap length (read-stop a.first a.log.now c.loop-i.i (omega arith) refl (before c)))

pub loop-i-preserved : goal.loop-i-preserved
loop-i-preserved c =
    let a = c.args in
    let i = c.loop-i.i in
    record {
      passes = omega (arith, c.loop-i.invariant.passes, ap length (read-on a.first a.log.now i (omega arith) refl (not-before c)));
      looks = omega (arith, c.loop-i.invariant.looks, read-less a.first a.log.now i (omega arith) refl (not-before c));
    }

pub returns : goal.returns
returns c =
    let a = c.args in
    omega (arith, c.loop-i.invariant.passes, ap length (read-end a.first a.log.now c.loop-i.i (omega arith)))
