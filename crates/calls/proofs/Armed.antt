-- The refusals that memory meets, and a call on memory that meets none. Assumes nothing.
use Prim.Native.Nat.{ℕ, ◌≤◌, ◌<◌}
use native.Mathlib.Omega.{arith}
use mathlib.Core.Path.{◌≡◌, refl}
use mathlib.Core.Bool.{Bool, true, false, not, cond}
use mathlib.Core.List.{List}
use lib.ListN.{length}
use lib.Dec.{eqb, ltb}
use borrow.Author.Tests.{eq-eqb, ne_eqb, le-ltb, lt-ltb}
use Rattle.state.specs.State.{size, decode}
use Rattle.state.specs.Sound.{is_sound}
use Rattle.state.proofs.Exactly.{taken-apart}
use Rattle.machine.specs.Calls.{Call}
use Rattle.machine.specs.Refusals.{first_of}
use Rattle.machine.specs.Judge.{step, is_refusal}
use Rattle.machine.specs.Answer.{Refused}
use Rattle.calls.specs.Calls.{is_short, mark_of, memory_refusal, call_answer, call_memory}

module _ (xs : List ℕ) where
  pub refusal-short : length xs < size → 1 ≡ memory_refusal xs
  unfolding memory_refusal is_short first_of
  refusal-short h = rw (lt-ltb _ _ h)

  pub refusal-unarmed : size ≤ length xs → mark_of xs ≡ 0 → 4 ≡ memory_refusal xs
  unfolding memory_refusal is_short first_of
  refusal-unarmed h m = rw (le-ltb _ _ h, eq-eqb _ _ m)

  module _ (h : size ≤ length xs) (m : mark_of xs ≡ 0 → ⊥) (b : Bool) (e : b ≡ is_sound xs) where
    pub refusal-unsound : not b ≡ true → 2 ≡ memory_refusal xs
    unfolding memory_refusal is_short first_of
    refusal-unsound t = rw (le-ltb _ _ h, ne_eqb _ _ m, ← e, t)

    pub refusal-none : not b ≡ false → 0 ≡ memory_refusal xs
    unfolding memory_refusal is_short first_of
    refusal-none t = rw (le-ltb _ _ h, ne_eqb _ _ m, ← e, t)

  -- memory that meets no refusal is sound
  pub sound-memory : memory_refusal xs ≡ 0 → is_sound xs ≡ true
  unfolding memory_refusal first_of
  sound-memory h = go (is_short xs) (eqb (mark_of xs) 0) (is_sound xs) h
    where
      go : (a b c : Bool) → ◌≡◌ {A = ℕ} (cond a 1 (cond b 4 (cond (not c) 2 0))) 0 → c ≡ true
      go true b c h = absurd (omega arith)
      go false true c h = absurd (omega arith)
      go false false true h = refl
      go false false false h = absurd (omega arith)

  pub sound-long : memory_refusal xs ≡ 0 → size ≤ length xs
  sound-long h = (taken-apart xs (sound-memory h)).long

  -- a call on memory that meets a refusal, and on memory that meets none
  module _ (call : Call) where
    pub call-refused : (n : ℕ) → n ≡ memory_refusal xs → (n ≡ 0 → ⊥) → (Refused n ≡ call_answer xs call) × (xs ≡ call_memory xs call)
    unfolding call_answer call_memory is_refusal
    call-refused n e h = (rw (← e, ne_eqb _ _ h), rw (← e, ne_eqb _ _ h))

    pub call-taken : (n : ℕ) → n ≡ memory_refusal xs → n ≡ 0 → (step (decode xs) call).answer ≡ call_answer xs call
    unfolding call_answer
    call-taken n e h = rw (← e, eq-eqb _ _ h)
