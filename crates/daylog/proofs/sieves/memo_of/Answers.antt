-- `daylog::memo_of` meets its contract: in each measure, what is summed from place i on, with what the reading still passes before it, is the whole; and so
-- many as it passes are left to sum, which is the measure. Assumes nothing.
use Prim.Native.Nat.{ℕ, ◌+◌, ◌*◌, ◌-◌, ◌≤◌, ◌<◌}
use mathlib.Core.Path.{◌≡◌, refl, sym, ap}
use native.Mathlib.Omega.{arith}
use lib.ListN.{length, get_or}
use Rattle.tables.proofs.Tables.{length-places}
use Rattle.rules.specs.declared.Limit.{Limit}
use Rattle.machine.specs.declared.Entry.{Entry}
use Rattle.daylog.specs.declared.sieves.Sieve.{Sieve}
use Rattle.daylog.specs.Inner.Log.{entries_of}
use Rattle.daylog.specs.Inner.Memo.{memo_for}
use Rattle.daylog.specs.Newest.{newest}
use Rattle.daylog.specs.Inner.Sieve.{sifted}
use Rattle.daylog.proofs.Logs.{codec}
use Rattle.daylog.proofs.Newest.{newest-most, read-on}
use Rattle.daylog.proofs.Sifting.{place-since}
use Rattle.daylog.proofs.Sums.{Summed, summed-none, summed-done}
use Rattle.daylog.proofs.Memos.{since-passed, in_dollars, in_contracts, in_executions}
use Rattle.daylog.proofs.Adding.{small, more-notional, more-volume, more-count, sum_fits, not_stopped, none_left}
use Rattle.daylog.proofs.sieves.memo_of.Goals.{After-sieved-in-loop-i}
use Rattle.daylog.proofs.sieves.memo_of.Goals as goal

pub overflow_sub-first : goal.overflow_sub-first
overflow_sub-first c =
    let start = c in
    let es = entries_of start.args.k start.args.log.now in
    omega (arith, start.requires.1, newest-most start.args.s.from es, length-places codec start.args.k start.args.log.now)

pub loop-i-init : goal.loop-i-init
loop-i-init c = (summed-none _ _ _ _, summed-none _ _ _ _, summed-none _ _ _ _, omega (arith, c.requires.1))

pub overflow_mul-at : goal.overflow_mul-at
overflow_mul-at c = omega (arith, c.requires.0.fits, c.loop-i.invariant.0.within)

pub bounds-log-at : goal.bounds-log-at
bounds-log-at c =
    let start = c in
    omega (arith, start.requires.0.size, start.requires.0.fits, c.loop-i.invariant.0.within, c.loop-i-test.true)

pub bounds-log-at-in-loop-i : goal.bounds-log-at-in-loop-i
bounds-log-at-in-loop-i c =
    let start = c in
    omega (arith, start.requires.0.size, start.requires.0.fits, c.loop-i.invariant.0.within, c.loop-i-test.true)

-- the entry that a turn reads, and the sums with it
module _ (c : After-sieved-in-loop-i) where
  abbrev sieve : Sieve
  sieve = c.args.s

  abbrev e : Entry
  e = c.entry_of-e.result

  -- what is summed with it
  abbrev Sum : Limit → ℕ → Type 0
  Sum limit sum = Summed (sifted limit sieve) sieve.from c.args.k c.args.log.now (c.loop-i.i - 1) sum

  some : 0 < c.loop-i.i
  some = omega (arith, c.loop-i-test.true)

  within : c.loop-i.i ≤ c.args.k
  within = c.loop-i.invariant.0.within

  not-before : sieve.from * 1024 ≤ get_or c.args.log.now ((c.loop-i.i - 1) * 2) 0
  not-before = not_stopped sieve.from c.loop-i.i c.requires.0 some within (omega (arith, c.loop-i.invariant.3, within, c.loop-i-test.true))

  in-range : (e.premium.0 ≤ 100_000_000) × (e.contracts.0 ≤ 1_000_000)
  in-range = small c.requires.0 sieve c.loop-i.i some within not-before c.sieved.ensures c.entry_of-e.ensures

  notional-with : (n : ℕ) → n ≡ e.premium.0 * e.contracts.0 → Sum in_dollars (c.loop-i.notional.0 + n)
  notional-with n number =
      more-notional c.requires.0 sieve c.loop-i.i some within not-before c.sieved.ensures c.entry_of-e.ensures c.loop-i.invariant.0 number

  volume-with : Sum in_contracts (c.loop-i.volume.0 + e.contracts.0)
  volume-with = more-volume c.requires.0 sieve c.loop-i.i some within not-before c.sieved.ensures c.entry_of-e.ensures c.loop-i.invariant.1

  count-with : Sum in_executions (c.loop-i.count.0 + c.sieved-in-loop-i.result)
  count-with =
      more-count c.requires.0 sieve c.loop-i.i some within not-before c.sieved.ensures c.entry_of-e.ensures c.loop-i.invariant.2 c.sieved-in-loop-i.ensures

pub times-requires : goal.times-requires
times-requires c = in-range (goal.at.times-requires c).After-sieved-in-loop-i

pub plus-notional-requires : goal.plus-notional-requires
plus-notional-requires c = let t = c in sum_fits t.requires.0 (notional-with (goal.at.plus-notional-requires t).After-sieved-in-loop-i _ c.times.ensures)

pub plus-volume-requires : goal.plus-volume-requires
plus-volume-requires c = let t = c in sum_fits t.requires.0 (volume-with (goal.at.plus-volume-requires t).After-sieved-in-loop-i)

pub plus-count-requires : goal.plus-count-requires
plus-count-requires c = let t = c in sum_fits t.requires.0 (count-with (goal.at.plus-count-requires t).After-sieved-in-loop-i)

pub loop-i-smaller : goal.loop-i-smaller
loop-i-smaller c = omega arith

pub loop-i-preserved : goal.loop-i-preserved
loop-i-preserved c =
    let t = c in
    let i = t.loop-i.i in
    let xs = t.args.log.now in
    let since = place-since (sieve (goal.at.loop-i-preserved t).After-sieved-in-loop-i).from (i - 1) t.requires.0 (omega (arith, within (goal.at.loop-i-preserved t).After-sieved-in-loop-i, some (goal.at.loop-i-preserved t).After-sieved-in-loop-i)) (not-before (goal.at.loop-i-preserved t).After-sieved-in-loop-i) in (
      rw c.plus-notional.ensures (notional-with (goal.at.loop-i-preserved t).After-sieved-in-loop-i _ c.times.ensures),
      rw c.plus-volume.ensures (volume-with (goal.at.loop-i-preserved t).After-sieved-in-loop-i),
      rw c.plus-count.ensures (count-with (goal.at.loop-i-preserved t).After-sieved-in-loop-i),
      omega (arith, t.loop-i.invariant.3, within (goal.at.loop-i-preserved t).After-sieved-in-loop-i, some (goal.at.loop-i-preserved t).After-sieved-in-loop-i, ap length (read-on (sieve (goal.at.loop-i-preserved t).After-sieved-in-loop-i).from xs i (some (goal.at.loop-i-preserved t).After-sieved-in-loop-i) refl since)),
    )

pub returns : goal.returns
unfolding memo_for
returns c =
    let l = c.loop-i in
    let start = c in
    let a = start.args in
    let none = none_left (newest a.s.from (entries_of l.i a.log.now)) (omega (arith, l.invariant.3, l.invariant.0.within, c.loop-i-test.false, start.requires.1, newest-most a.s.from (entries_of a.k a.log.now), length-places codec a.k a.log.now)) in
    rw (
      sym (summed-done l.invariant.0 none),
      sym (summed-done l.invariant.1 none),
      sym (summed-done l.invariant.2 none),
      since-passed a.s.from (entries_of a.k a.log.now),
      ← start.requires.1,
    )
