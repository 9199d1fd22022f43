-- Each refusal of the calls on an armed unit has the condition that document 01 gives it. Assumes nothing.
use Prim.Native.Nat.{ℕ, zero, suc, ◌≤◌}
use native.Mathlib.Omega.{arith}
use mathlib.Core.Path.{◌≡◌, refl, sym, ap, ◌∙◌, subst⁻¹}
use mathlib.Core.Logic.Iff
use mathlib.Core.Logic.{◌↔◌}
use mathlib.Core.Bool.{Bool, true, false, not, cond}
use mathlib.Core.List.{List}
use lib.ListN.{length}
use lib.Dec.{eqb}
use borrow.Author.Tests.{ltb-true, ltb-false, lt-ltb, le-ltb, ne_eqb, eqb-true, eq-eqb}
use Rattle.machine.specs.State.{State}
use Rattle.machine.specs.Calls.{Call}
use Rattle.machine.specs.Refusals.{first_of, refusal_of}
use Rattle.machine.specs.Judge.{log_places}
use Rattle.state.specs.State.{size, decode}
use Rattle.state.specs.Sound.{Sound, is_sound}
use Rattle.state.proofs.Exactly.{restored}
use Rattle.state.proofs.Stored.{is-stored, decode-stored}
use Rattle.state.proofs.Exactly.{made-parts, sound-fits, given-is-made, sound-decode, exactly}
use Rattle.calls.specs.Calls.{is_short, mark_of, memory_refusal, refusal_in}
use Rattle.promises.specs.Refusals.{Short, HoldsState, Holding, ◌when◌else◌, none, refusals_of, call_refusals, CallRefusals}
use Rattle.promises.proofs.Tests.{Tells, tells-not, not-tells}
use Rattle.promises.proofs.Gives.{Gives, or_else, or-zero, none-gives, Leads, ends, tested}
use Rattle.promises.proofs.Judged.{call-leads}
use Rattle.promises.proofs.Answered.{unrefused, row_by}

-- a memory that holds a sound state decodes to it
pub held-is : (s : State) (xs : List ℕ) → HoldsState s xs → decode xs ≡ s
held-is s xs h =
    ap decode (is-stored s xs h.1)
    ∙ decode-stored s (sound-fits s h.0 (made-parts s.part.profile (given-is-made s.part.profile h.0.given))) xs

module _ (xs : List ℕ) where
  -- a property of the state that a sound memory holds
  on-held : (P : State → Type 0) → ((is_sound xs ≡ true) × P (decode xs)) ↔ Holding xs P
  unfolding Sound
  on-held P = (
    λ h. (decode xs, ((sound-decode xs h.0, restored xs h.0), h.1)),
    λ h. ((exactly xs).0 (h.0, h.1.0), subst⁻¹ P (held-is h.0 xs h.1.0) h.1.1),
  )

  pub short-tells : Tells (is_short xs) (Short xs)
  unfolding is_short
  short-tells = (ltb-true (length xs) size, lt-ltb (length xs) size)

  pub long-tells : (is_short xs ≡ false) ↔ (size ≤ length xs)
  unfolding is_short
  long-tells = (ltb-false (length xs) size, le-ltb (length xs) size)

  pub unmarked-tells : Tells (eqb (mark_of xs) 0) (mark_of xs ≡ 0)
  unmarked-tells = (eqb-true (mark_of xs) 0, eq-eqb (mark_of xs) 0)

  pub marked-tells : (eqb (mark_of xs) 0 ≡ false) ↔ (mark_of xs ≡ 0 → ⊥)
  marked-tells = tells-not (eqb (mark_of xs) 0) unmarked-tells

  pub unsound-tells : Tells (not (is_sound xs)) (Sound xs → ⊥)
  unsound-tells = not-tells (is_sound xs) (Iff.symm (exactly xs))

  -- memory that meets no refusal is sound, and sound memory meets none
  pub ready-sound : memory_refusal xs ≡ 0 → is_sound xs ≡ true
  unfolding memory_refusal first_of
  ready-sound e = go (is_short xs) (eqb (mark_of xs) 0) (is_sound xs) e
    where
      go : (a b c : Bool) → ◌≡◌ {A = ℕ} (cond a 1 (cond b 4 (cond (not c) 2 0))) 0 → c ≡ true
      go true b c h = absurd (omega arith)
      go false true c h = absurd (omega arith)
      go false false true h = refl
      go false false false h = absurd (omega arith)

  -- 1, 4 and 2, and what comes after them
  memory-leads : (r : ℕ) (after : ℕ → Type 0)
      → Leads r after (memory_refusal xs) (1 when Short xs else 4 when (mark_of xs ≡ 0) else 2 when (Sound xs → ⊥) else after)
  unfolding memory_refusal first_of
  memory-leads r after =
      tested r after (is_short xs) 0 _ short-tells
      (tested r after (eqb (mark_of xs) 0) 3 _ unmarked-tells (tested r after (not (is_sound xs)) 1 0 unsound-tells (ends r after)))

  module _ (call : Call) where
    -- a call's refusal is that of the memory, or else that of the machine
    refusal-or : refusal_in xs call ≡ or_else (memory_refusal xs) (refusal_of log_places (decode xs) call)
    unfolding refusal_in or_else
    refusal-or = go (memory_refusal xs)
      where
        go : (m : ℕ) → cond (eqb m 0) (refusal_of log_places (decode xs) call) m ≡ or_else m (refusal_of log_places (decode xs) call)
        go zero = refl
        go (suc m) = rw (ne_eqb (suc m) 0 (λ z. omega arith))

    -- what the machine's sentences give of the state that a sound memory holds, with a number behind them
    pub held_gives : (r : ℕ) (after : ℕ → Type 0) → is_sound xs ≡ true → (refusal_of log_places (decode xs) call ≡ 0 → Gives r after)
        → Gives (or_else (refusal_of log_places (decode xs) call) r) (λ n. Holding xs (λ s. refusals_of log_places s call after n))
    held_gives r after sound h n =
        Iff.trans (call-leads log_places r after (decode xs) call h n)
        (Iff.trans (λ p. (sound, p), λ p. p.1) (on-held (λ s. refusals_of log_places s call after n)))

    refusal-gives : Gives (refusal_in xs call) (call_refusals xs call)
    refusal-gives n =
        Iff.trans (λ e. sym refusal-or ∙ e, λ e. refusal-or ∙ e)
        (memory-leads (refusal_of log_places (decode xs) call) (λ n. Holding xs (λ s. refusals_of log_places s call none n))
        (λ e k. Iff.trans (λ p. or-zero (refusal_of log_places (decode xs) call) ∙ p, λ p. sym (or-zero (refusal_of log_places (decode xs) call)) ∙ p)
        (held_gives 0 none (ready-sound e) (λ z. none-gives) k)) n)

    -- EACH REFUSAL, AS DOCUMENTS 01 AND 02 HAVE IT
    pub call-refusals : CallRefusals xs call
    call-refusals = record {
      refused = λ n. Iff.trans (row_by xs call n) (refusal-gives (suc n));
      accepted = Iff.trans (unrefused xs call) (refusal-gives 0);
    }
