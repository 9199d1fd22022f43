-- The refusals of a call with a time: those of the memory, then 12, then its own. Assumes nothing.
use Prim.Native.Nat.{ℕ, zero, suc}
use native.Mathlib.Omega.{arith}
use native.Mathlib.Nat.{suc-ne-zero}
use mathlib.Core.Path.{◌≡◌, refl}
use mathlib.Core.Bool.{Bool, true, false, not, cond, ◌&&◌, ◌||◌}
use mathlib.Core.List.{List}
use lib.ListN.{length}
use lib.Dec.{eqb, leb, ltb}
use borrow.Author.Tests.{ne_eqb, lt-leb}
use Rattle.measures.specs.Ranges.{is_in, times}
use Rattle.machine.specs.State.{roots_in, rules_in}
use Rattle.machine.specs.Remaining.{is_cell}
use Rattle.machine.specs.Calls.{order, lockout, remaining}
use Rattle.machine.specs.Effects.{last_reset}
use Rattle.machine.specs.Refusals.{first_of, bad_time, is_root, refusal_of}
use Rattle.state.specs.State.{decode}
use Rattle.calls.specs.Calls.{memory_refusal, memory_or, timed_refusal, refusal_in}

-- a call with a time: what the memory and the time refuse, and what is left to be looked at
module _ (xs : List ℕ) (time : ℕ) where
  abbrev late : Bool
  late = bad_time (decode xs).part time

  -- 12, by the clock that was read
  pub timed-is : memory_refusal xs ≡ 0 → (clock : ℕ) → clock ≡ (decode xs).part.clock → (b : Bool) → b ≡ not (is_in times time && leb clock time)
      → (d : Bool) → b ≡ d → cond d 12 0 ≡ timed_refusal xs time
  unfolding timed_refusal first_of bad_time
  timed-is ready clock c b e d f = rw (ready, ← f, e, c)

  timed-on : timed_refusal xs time ≡ 0 → (memory_refusal xs ≡ 0) × (late ≡ false)
  unfolding timed_refusal first_of
  timed-on e = go (memory_refusal xs) refl late refl e
    where
      go : (k : ℕ) → memory_refusal xs ≡ k → (b : Bool) → late ≡ b → cond (eqb k 0) (cond b 12 0) k ≡ 0 → (memory_refusal xs ≡ 0) × (late ≡ false)
      go zero r false t e = (r, t)
      go zero r true t e = absurd (omega arith)
      go (suc k) r b t e = absurd (suc-ne-zero k (rw (ne_eqb (suc k) 0 (λ z. omega arith)) at e))

  pub timed-ready : timed_refusal xs time ≡ 0 → memory_refusal xs ≡ 0
  timed-ready e = (timed-on e).0

  pub timed-late : timed_refusal xs time ≡ 0 → bad_time (decode xs).part time ≡ false
  timed-late e = (timed-on e).1

  -- with tests after 12: these two refuse as before, and where they do not the rest decides
  module _ (rest : ℕ) where
    pub timed-refused : (n : ℕ) → n ≡ timed_refusal xs time → (n ≡ 0 → ⊥) → n ≡ memory_or xs (cond late 12 rest)
    unfolding timed_refusal first_of
    timed-refused n e h = go (eqb (memory_refusal xs) 0) late (memory_refusal xs) n e h
      where
        go : (a b : Bool) (k n : ℕ) → n ≡ cond a (cond b 12 0) k → (n ≡ 0 → ⊥) → n ≡ cond a (cond b 12 rest) k
        go false b k n e h = e
        go true true k n e h = e
        go true false k n e h = absurd (h e)

    pub timed-met : timed_refusal xs time ≡ 0 → rest ≡ memory_or xs (cond late 12 rest)
    timed-met e = let t = timed-on e in rw (t.0, t.1)

  -- 13, by the roots and the rules that were read
  module _ (root reset : ℕ) where
    pub order-timed : (n : ℕ) → n ≡ timed_refusal xs time → (n ≡ 0 → ⊥) → n ≡ refusal_in xs (order time root reset)
    unfolding refusal_in refusal_of first_of
    order-timed n e h = timed-refused _ n e h

    pub order-known : timed_refusal xs time ≡ 0 → (roots : ℕ) → roots ≡ roots_in (decode xs) → (b : Bool) → not (ltb root roots && leb reset last_reset) ≡ b
        → cond b 13 0 ≡ refusal_in xs (order time root reset)
    unfolding refusal_in refusal_of first_of is_root roots_in
    order-known e roots r b f = rw (← f, r) (timed-met _ e)

  module _ (rule unit : ℕ) where
    pub remaining-timed : (n : ℕ) → n ≡ timed_refusal xs time → (n ≡ 0 → ⊥) → n ≡ refusal_in xs (remaining time rule unit)
    unfolding refusal_in refusal_of first_of
    remaining-timed n e h = timed-refused _ n e h

    pub remaining-known : timed_refusal xs time ≡ 0 → (known : Bool) → known ≡ is_cell (rules_in (decode xs)) rule unit → (b : Bool) → not known ≡ b
        → cond b 13 0 ≡ refusal_in xs (remaining time rule unit)
    unfolding refusal_in refusal_of first_of
    remaining-known e known r b f = rw (← f, r) (timed-met _ e)

  either-level : (level : ℕ) (a c : Bool) → (eqb level 0 && a || eqb level 1 && c) ≡ (leb level 1 && cond (eqb level 0) a c)
  either-level zero true c = refl
  either-level zero false c = refl
  either-level (suc zero) a c = refl
  either-level (suc (suc n)) a c =
      rw (ne_eqb (suc (suc n)) 0 (λ e. omega arith), ne_eqb (suc (suc n)) 1 (λ e. omega arith), lt-leb (suc (suc n)) 1 (omega arith))

  module _ (level root : ℕ) where
    pub lockout-timed : (n : ℕ) → n ≡ timed_refusal xs time → (n ≡ 0 → ⊥) → n ≡ refusal_in xs (lockout time level root)
    unfolding refusal_in refusal_of first_of
    lockout-timed n e h = timed-refused _ n e h

    pub lockout-known : timed_refusal xs time ≡ 0 → (roots : ℕ) → roots ≡ roots_in (decode xs) → (b : Bool)
        → not (eqb level 0 && ltb root roots || eqb level 1 && eqb root 0) ≡ b → cond b 13 0 ≡ refusal_in xs (lockout time level root)
    unfolding refusal_in refusal_of first_of is_root roots_in
    lockout-known e roots r b f = rw (← f, r, either-level level (ltb root (length (decode xs).part.profile.roots)) (eqb root 0)) (timed-met _ e)
