-- `daylog::are_entries` meets its contract: what is left from place i on decides as the whole does. Assumes nothing.
use Prim.Native.Nat.{ℕ, ◌+◌, ◌-◌, ◌*◌, ◌/◌, ◌%◌, ◌<◌}
use mathlib.Core.Path.{◌≡◌, sym, ap, ap₂, ◌∙◌}
use mathlib.Core.Bool.{Bool, ◌&&◌, and_assoc}
use mathlib.Core.List.{List}
use lib.ListN.{length, get_or, take, drop, length-drop}
use lib.Seq.{take_all}
use lib.Bits.{bit_or}
use lib.Dec.{leb}
use native.Mathlib.Omega.{arith}
use Rattle.measures.specs.Ranges.{is_in, times}
use Rattle.tables.specs.Inner.Tables.{all_zero}
use Rattle.packing.specs.EntryPlace.{entry_at, is_entry_but_time}
use Rattle.packing.specs.Gaps.{is_clear}
use Rattle.packing.proofs.Gaps.{or-clear, gap-clear, entry-clear}
use Rattle.packing.proofs.EntryPlace.{time-here, is-entry-here}
use Rattle.daylog.specs.Inner.Log.{is_log_place}
use Rattle.daylog.specs.Inner.Sieve.{has_flag}
use Rattle.daylog.proofs.Flags.{flag-here}
use Rattle.daylog.proofs.Order.{from_holds, left-start, left_step, left_end, holds-is}
use Rattle.daylog.proofs.are_entries.Goals.{After-gap-in-loop-i}
use Rattle.daylog.proofs.are_entries.Goals as goal

pub loop-i-init : goal.loop-i-init
loop-i-init c = (omega arith, omega arith, left-start _ _ _ _)

-- the numbers read at place i, whether an entry with a flag stands there, and the gaps with it
module _ (c : After-gap-in-loop-i) where
  abbrev numbers : List ℕ
  numbers = c.args.log.now

  abbrev roots : ℕ
  roots = c.args.roots

  abbrev at : ℕ
  at = c.loop-i.i * 2

  abbrev first : ℕ
  first = get_or numbers at 0

  abbrev second : ℕ
  second = get_or numbers (at + 1) 0

  there : at + 1 < length numbers
  there = omega (arith, c.requires, c.loop-i-test.true)

  abbrev rest : Bool
  rest = is_entry_but_time roots first second && has_flag first

  tested : is_log_place roots (drop at numbers) ≡ (is_in times (first / 1024) && rest)
  unfolding is_log_place
  tested =
      let timed = is_in times (first / 1024) in
      ap₂ (λ (a b : Bool). a && b) (is-entry-here numbers at there _) (flag-here numbers at there)
      ∙ and_assoc timed (is_entry_but_time roots first second) (has_flag first)

  timed : (entry_at (drop at numbers)).time ≡ first / 1024 % 134_217_728
  timed = time-here numbers at there

  first_fits : first < 18_446_744_073_709_551_616
  first_fits = omega (arith, c.shared_slice_known-in-loop-i-1.given at)

  second_fits : second < 18_446_744_073_709_551_616
  second_fits = omega (arith, c.shared_slice_known-in-loop-i-2-1.given (at + 1))

  -- the gaps of this place are clear just if an entry stands there that is not before the one in front of it
  cleared : is_clear (bit_or (bit_or c.entry_gaps-own.result c.gap.result) c.gap-in-loop-i.result) ≡ (rest && leb c.loop-i.from (first / 1024))
  cleared =
      let entry = c.entry_gaps-own.result in
      let flag = c.gap.result in
      or-clear (bit_or entry flag) c.gap-in-loop-i.result
      ∙ ap₂ (λ (a b : Bool). a && b)
      (or-clear entry flag
      ∙ ap₂ (λ (a b : Bool). a && b) (ap is_clear c.entry_gaps-own.ensures ∙ entry-clear roots first second second_fits)
      (ap is_clear c.gap.ensures ∙ gap-clear (first % 4) 1 (omega arith) (omega arith)))
      (ap is_clear c.gap-in-loop-i.ensures ∙ gap-clear (first / 1024) c.loop-i.from (omega (arith, first_fits)) c.loop-i.invariant.1)

pub loop-i-preserved : goal.loop-i-preserved
loop-i-preserved c =
    let t = c in
    let a = t.args in
    let l = t.loop-i in
    let own = bit_or (bit_or c.entry_gaps-own.result c.gap.result) c.gap-in-loop-i.result in
    let next = from_holds a.roots a.clock a.k a.log.now (first c / 1024) (l.i + 1) in (
      omega arith,
      omega (arith, first_fits c),
      l.invariant.2
          ∙ left_step a.roots a.clock a.k a.log.now l.from l.i _ _ (timed c) (tested c) t.loop-i-test.true (is_clear l.gaps)
          ∙ ap (λ (b : Bool). b && next) (sym (or-clear l.gaps own ∙ ap (λ (b : Bool). is_clear l.gaps && b) (cleared c))),
    )

pub returns : goal.returns
returns c =
    let a = c.args in
    let n = length a.log.now - a.k * 2 in
    let l = c.loop-i in
    let e : c.is_zero.result ≡ all_zero (take n (drop (a.k * 2) a.log.now)) = c.is_zero.ensures in
    ap (λ (b : Bool). is_clear l.gaps && leb l.from 86_399_999 && leb l.from a.clock && b) (e ∙ ap all_zero (take_all n (drop (a.k * 2) a.log.now) (omega (arith, length-drop (a.k * 2) a.log.now))))
    ∙ sym (holds-is a.roots a.clock a.k a.log.now
    ∙ ap (λ (b : Bool). b && all_zero (drop (a.k * 2) a.log.now))
    (l.invariant.2 ∙ ap (λ (b : Bool). is_clear l.gaps && b) (left_end a.roots a.clock a.k a.log.now l.from _ c.loop-i-test.false) ∙ sym (and_assoc (is_clear l.gaps) (leb l.from 86_399_999) (leb l.from a.clock))))
