-- A call on a copy of the state's numbers is answered as one on the memory, and leaves the numbers that the memory then has in front. Assumes nothing.
use Prim.Native.Nat.{ℕ, zero, suc, ◌≤◌}
use mathlib.Core.Path.{◌≡◌, refl, sym, ap, ap₂, ◌∙◌, subst}
use mathlib.Core.Bool.{Bool, true, false, not, cond}
use mathlib.Core.List.{List, [], ◌∷◌, ◌++◌, append-nil}
use native.Mathlib.Omega.{arith}
use lib.ListN.{length, get_or, take, drop}
use lib.Seq.{take-take, length-take-le, get_or-take}
use lib.Dec.{eqb}
use borrow.Author.Tests.{ne_eqb, le-ltb}
use Rattle.laws.proofs.Tests.{same_test}
use Rattle.laws.proofs.Lists.{ended}
use Rattle.machine.specs.Answer.{Answer, Refused}
use Rattle.machine.specs.Calls.{Call}
use Rattle.machine.specs.State.{State}
use Rattle.machine.specs.Register.{sent_at}
use Rattle.machine.specs.Refusals.{first_of}
use Rattle.machine.specs.Judge.{step, is_refusal}
use Rattle.state.specs.State.{size, encode, decode, stored}
use Rattle.state.specs.Sound.{Sound, is_sound}
use Rattle.state.proofs.Stored.{decode-stored}
use Rattle.state.proofs.Exactly.{sound-decode, sound-state-fits, restored, exactly}
use Rattle.calls.specs.Calls.{is_short, mark_of, memory_refusal, call_answer, call_memory}
use Rattle.calls.proofs.Armed.{sound-memory}
use Rattle.figures.specs.Happenings.{happening_of}
use Rattle.accounted.specs.Accounted.{open_root, happening_in}
use Rattle.accounted.proofs.Taken.{taken}

module _ (xs : List ℕ) (long : size ≤ length xs) where
  abbrev front : List ℕ
  front = take size xs

  front_long : length front ≡ size
  front_long = length-take-le size xs long

  again : take size front ≡ front
  again = take-take size size xs (omega arith)

  sound-same : is_sound front ≡ is_sound xs
  unfolding Sound
  sound-same =
      same_test (is_sound front) (is_sound xs)
      (λ h. let s = (exactly front).1 h in (exactly xs).0 (s.0, (s.1.0, sym again ∙ s.1.1)))
      (λ h. let s = (exactly xs).1 h in (exactly front).0 (s.0, (s.1.0, again ∙ s.1.1)))

  refusal-same : memory_refusal front ≡ memory_refusal xs
  unfolding memory_refusal first_of is_short
  refusal-same = rw (
    le-ltb (length front) size (omega (arith, front_long)),
    le-ltb (length xs) size long,
    get_or-take size xs 0 0 (omega arith),
    sound-same,
  )

  decode-same : memory_refusal xs ≡ 0 → decode front ≡ decode xs
  unfolding stored
  decode-same ready =
      let sound = sound-memory xs ready in
      let bare : front ≡ stored (decode xs) [] = restored xs sound ∙ sym (append-nil (encode (decode xs))) in
      ap decode bare ∙ decode-stored (decode xs) (sound-state-fits (decode xs) (sound-decode xs sound)) []

  module _ (call : Call) where
    pub answer-same : call_answer front call ≡ call_answer xs call
    unfolding call_answer
    answer-same = go (memory_refusal xs) refl
      where
        go : (k : ℕ) → memory_refusal xs ≡ k → cond (eqb (memory_refusal front) 0) (step (decode front) call).answer (Refused (memory_refusal front)) ≡ cond (eqb (memory_refusal xs) 0) (step (decode xs) call).answer (Refused (memory_refusal xs))
        go zero e = rw (refusal-same, e, decode-same e)
        go (suc k) e = rw (refusal-same, e, ne_eqb (suc k) 0 (λ z. omega arith))

    -- a call that is not refused
    module _ (free : is_refusal (call_answer xs call) ≡ false) where
      ready : memory_refusal xs ≡ 0
      ready = (taken xs call free).ready

      pub memory-same : call_memory front call ++ drop size xs ≡ call_memory xs call
      unfolding call_memory stored
      memory-same =
          rw (answer-same, free, decode-same ready, ended front size (omega (arith, front_long)))
          (ap (λ (l : List ℕ). l ++ drop size xs) (append-nil (encode (step (decode xs) call).after)))

      pub happening-same : happening_in front call ≡ happening_in xs call
      unfolding happening_in open_root
      happening-same =
          ap₂ (λ (s : State) (r : Answer). happening_of (λ identity. (sent_at s.part.register identity).root) call r) (decode-same ready) answer-same
