-- A call on sound memory: what the machine refuses, and what it does. Assumes nothing.
use Prim.Native.Nat.{ℕ, zero, suc, ◌≤◌, ◌<◌}
use native.Mathlib.Omega.{arith}
use native.Mathlib.Nat.{suc-ne-zero}
use mathlib.Core.Path.{◌≡◌, refl, sym, ◌∙◌, subst, ap}
use mathlib.Core.Bool.{Bool, true, false, not, cond, ◌&&◌}
use mathlib.Core.List.{List}
use lib.ListN.{length}
use lib.Dec.{eqb, leb, ltb}
use borrow.Author.Tests.{ne_eqb, ltb-true, eqb-true}
use Rattle.laws.specs.Folds.{every}
use Rattle.rules.specs.Valid.{is_rule}
use Rattle.machine.specs.State.{Profile, State, roots_in}
use Rattle.machine.specs.Entries.{is_flagged}
use Rattle.machine.specs.Calls.{Call, order, lockout, remaining, status}
use Rattle.machine.specs.Deeds.{resetting}
use Rattle.machine.specs.Effects.{effect_of}
use Rattle.machine.specs.Refusals.{first_of, bad_time, is_root, refusal_of}
use Rattle.machine.specs.Step.{after}
use Rattle.machine.specs.Judge.{log_places, judged, ordered, unless, judge, step_in, step, is_refusal}
use Rattle.machine.specs.Answer.{Refused}
use Rattle.machine.proofs.Refusals.{orderable}
use Rattle.machine.proofs.Keeps.{remaining-same, status-same}
use Rattle.machine.proofs.Sound.{step-sound}
use Rattle.state.specs.State.{decode, stored}
use Rattle.state.specs.Sound.{Given, SoundState, is_sound}
use Rattle.state.specs.Inner.Laid.{Laid}
use Rattle.state.proofs.Stored.{decode-stored}
use Rattle.state.proofs.Exactly.{made-parts, given-is-made, sound-decode, sound-state-fits, sound-stored, sound-is-laid}
use Rattle.calls.specs.Calls.{memory_refusal, refusal_in, call_answer, call_memory}
use Rattle.calls.proofs.Armed.{sound-memory, call-refused}

-- the state that a call leaves which is not refused
abbrev pub done : List ℕ → Call → State
done xs call = after (judged (decode xs) call).deed (decode xs)

module _ (xs : List ℕ) (ready : memory_refusal xs ≡ 0) where
  pub laid : Laid xs
  laid = sound-is-laid xs (sound-memory xs ready)

  pub flagged : every is_flagged (decode xs).log ≡ true
  flagged = (sound-decode xs (sound-memory xs ready)).flagged

  -- the machine refuses, and nothing changes; or it acts
  module _ (call : Call) where
    pub refused : (k : ℕ) → refusal_of log_places (decode xs) call ≡ suc k → (Refused (suc k) ≡ call_answer xs call) × (xs ≡ call_memory xs call)
    unfolding call_answer call_memory is_refusal step step_in judge unless
    refused k e = (rw (ready, e), rw (ready, e))

    pub acts : refusal_of log_places (decode xs) call ≡ 0 → is_refusal (judged (decode xs) call).answer ≡ false
        → ((judged (decode xs) call).answer ≡ call_answer xs call) × (stored (done xs call) xs ≡ call_memory xs call)
    unfolding call_answer call_memory step step_in judge unless
    acts e f = (rw (ready, e), rw (ready, e, f))

-- a call on any memory: it is refused by the number that it meets, and meets none on sound memory alone, where the machine takes it
module _ (xs : List ℕ) (call : Call) where
  pub refused-by : (n : ℕ) → n ≡ refusal_in xs call → (n ≡ 0 → ⊥) → (Refused n ≡ call_answer xs call) × (xs ≡ call_memory xs call)
  unfolding refusal_in
  refused-by n e h = go (memory_refusal xs) refl n e h
    where
      go : (k : ℕ) → memory_refusal xs ≡ k → (n : ℕ) → n ≡ cond (eqb k 0) (refusal_of log_places (decode xs) call) k → (n ≡ 0 → ⊥)
          → (Refused n ≡ call_answer xs call) × (xs ≡ call_memory xs call)
      go zero k zero e h = absurd (h refl)
      go zero k (suc n) e h = refused xs k call n (sym e)
      go (suc j) k n e h = call-refused xs call n ((rw (ne_eqb (suc j) 0 (λ z. omega arith)) at e) ∙ sym k) h

  taken-by : refusal_in xs call ≡ 0 → (memory_refusal xs ≡ 0) × (refusal_of log_places (decode xs) call ≡ 0)
  unfolding refusal_in
  taken-by e = go (memory_refusal xs) refl e
    where
      go : (k : ℕ) → memory_refusal xs ≡ k → cond (eqb k 0) (refusal_of log_places (decode xs) call) k ≡ 0
          → (memory_refusal xs ≡ 0) × (refusal_of log_places (decode xs) call ≡ 0)
      go zero k e = (k, e)
      go (suc j) k e = absurd (suc-ne-zero j (rw (ne_eqb (suc j) 0 (λ z. omega arith)) at e))

  pub ready_by : refusal_in xs call ≡ 0 → memory_refusal xs ≡ 0
  ready_by e = (taken-by e).0

  pub accepted-by : refusal_in xs call ≡ 0 → refusal_of log_places (decode xs) call ≡ 0
  accepted-by e = (taken-by e).1

-- after every call a sound memory is sound again
module _ (xs : List ℕ) (ready : memory_refusal xs ≡ 0) where
  sound : is_sound xs ≡ true
  sound = sound-memory xs ready

  step_after : (call : Call) → SoundState (step (decode xs) call).after
  unfolding step
  step_after call = step-sound log_places (omega arith) (decode xs) call (sound-decode xs sound)

  module _ (call : Call) (e : refusal_of log_places (decode xs) call ≡ 0) where
    pub after-sound : SoundState (done xs call)
    unfolding step step_in judge unless
    after-sound = subst (λ (n : ℕ). SoundState (after (unless n (judged (decode xs) call)).deed (decode xs))) e (step_after call)

    pub after-laid : Laid (stored (done xs call) xs)
    after-laid = sound-is-laid (stored (done xs call) xs) (sound-stored (done xs call) xs after-sound)

    pub after-decoded : decode (stored (done xs call) xs) ≡ done xs call
    after-decoded =
        decode-stored (done xs call) (sound-state-fits (done xs call) after-sound) xs

  pub kept-sound : (call : Call) → is_sound (call_memory xs call) ≡ true
  unfolding call_memory
  kept-sound call = pick (is_refusal (call_answer xs call))
    where
      pick : (b : Bool) → is_sound (cond b xs (stored (step (decode xs) call).after xs)) ≡ true
      pick true = sound
      pick false = sound-stored (step (decode xs) call).after xs (step_after call)

-- the root of an order that is not refused is below 64
pub order-low : (xs : List ℕ) (time root reset : ℕ) → refusal_in xs (order time root reset) ≡ 0 → root < 64
unfolding roots_in
order-low xs time root reset e =
    let call = order time root reset in
    omega (arith, (orderable log_places (decode xs) time root reset (accepted-by xs call e)).1, (laid xs (ready_by xs call e)).fits.roots)

-- what an order leaves that is not refused: a state is laid out there, the one after its reset
module _ (xs : List ℕ) (time root reset : ℕ) (e : refusal_in xs (order time root reset) ≡ 0) {ys : List ℕ}
    (is : ys ≡ stored (after (resetting time root (effect_of reset)) (decode xs)) xs) where
  pub order-laid : Laid ys
  unfolding judged ordered
  order-laid =
      let call = order time root reset in
      subst Laid (sym is) (after-laid xs (ready_by xs call e) call (accepted-by xs call e))

  pub order-decoded : decode ys ≡ after (resetting time root (effect_of reset)) (decode xs)
  unfolding judged ordered
  order-decoded =
      let call = order time root reset in
      ap decode is ∙ after-decoded xs (ready_by xs call e) call (accepted-by xs call e)

-- the root that a lockout names which is not refused is below 64
pub lockout-root : (xs : List ℕ) (time level root : ℕ) → refusal_in xs (lockout time level root) ≡ 0 → root < 64
unfolding refusal_of first_of is_root roots_in
lockout-root xs time level root e =
    let few : roots_in (decode xs) ≤ 64 = (laid xs (ready_by xs (lockout time level root) e)).fits.roots in
    let c = accepted-by xs (lockout time level root) e in
    go (bad_time (decode xs).part time) level few c
  where
    go : (late : Bool) (n : ℕ) → roots_in (decode xs) ≤ 64
        → ◌≡◌ {A = ℕ} (cond late 12 (cond (not (leb n 1 && cond (eqb n 0) (ltb root (roots_in (decode xs))) (eqb root 0))) 13 0)) 0 → root < 64
    go true n few c = absurd (omega arith)
    go false zero few c = low (ltb root (roots_in (decode xs))) refl c
      where
        low : (b : Bool) → ltb root (roots_in (decode xs)) ≡ b → ◌≡◌ {A = ℕ} (cond (not b) 13 0) 0 → root < 64
        low true t c = omega (arith, few, ltb-true root (roots_in (decode xs)) t)
        low false t c = absurd (omega arith)
    go false (suc n) few c = none (leb (suc n) 1) (eqb root 0) refl (rw (ne_eqb (suc n) 0 (λ z. omega arith)) at c)
      where
        none : (a b : Bool) → eqb root 0 ≡ b → ◌≡◌ {A = ℕ} (cond (not (a && b)) 13 0) 0 → root < 64
        none true true t c = omega (arith, eqb-true root 0 t)
        none true false t c = absurd (omega arith)
        none false b t c = absurd (omega arith)

-- a call that leaves the machine's state leaves the memory, number for number
same_memory : (xs : List ℕ) (call : Call) → (step (decode xs) call).after ≡ decode xs → call_memory xs call ≡ xs
unfolding call_memory call_answer is_refusal
same_memory xs call same = go (memory_refusal xs) refl
  where
    either : (b : Bool) (ys : List ℕ) → ys ≡ xs → cond b xs ys ≡ xs
    either true ys e = refl
    either false ys e = e

    go : (n : ℕ) → memory_refusal xs ≡ n
        → cond (is_refusal (cond (eqb n 0) (step (decode xs) call).answer (Refused n))) xs (stored (step (decode xs) call).after xs) ≡ xs
    go zero e = either (is_refusal (step (decode xs) call).answer) _ (ap (λ (s : State). stored s xs) same ∙ sym (laid xs e).is)
    go (suc n) e = rw (ne_eqb (suc n) 0 (λ z. omega arith))

pub remaining-keeps : (xs : List ℕ) (time rule unit : ℕ) → call_memory xs (remaining time rule unit) ≡ xs
unfolding step
remaining-keeps xs time rule unit = same_memory xs (remaining time rule unit) (remaining-same log_places (decode xs) time rule unit)

pub status-keeps : (xs : List ℕ) → call_memory xs status ≡ xs
unfolding step
status-keeps xs = same_memory xs status (status-same log_places (decode xs))
