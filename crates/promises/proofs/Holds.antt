-- A memory that holds a state: what an accepted Arm leaves holds the freshly armed state, and what a call leaves holds the state that the machine
-- goes to. Assumes nothing.
use Prim.Native.Nat.{ℕ, zero, suc}
use native.Mathlib.Omega.{arith}
use mathlib.Core.Path.{◌≡◌, refl, sym, ap, ◌∙◌, subst}
use mathlib.Core.Bool.{Bool, true, false, cond, false≢true}
use mathlib.Core.List.{List}
use lib.ListN.{length, drop}
use lib.Dec.{eqb}
use borrow.Author.Tests.{eqb-true}
use Rattle.profile.specs.Profile.{outcome_of, reading_of}
use Rattle.profile.specs.Reading.{Accepted, Refused as NotRead}
use Rattle.profile.proofs.Laws.{reading-accepted}
use Rattle.machine.specs.State.{State, armed}
use Rattle.state.specs.State.{size, decode, stored}
use Rattle.state.specs.Sound.{SoundState, is_sound}
use Rattle.state.specs.Inner.Laid.{Fits}
use Rattle.state.proofs.Exactly.{taken-apart}
use Rattle.state.proofs.Stored.{stored-rest, decode-stored}
use Rattle.state.proofs.Exactly.{made-parts, sound-fits, given-is-made, sound-stored}
use Rattle.machine.specs.Answer.{Refused}
use Rattle.machine.specs.Calls.{Call, order, lockout, offer, remaining, status, send, report, close}
use Rattle.machine.specs.Locks.{verdict_of}
use Rattle.machine.specs.Refusals.{refusal_of}
use Rattle.machine.specs.Step.{after}
use Rattle.machine.specs.Judge.{log_places, filled, offered, ordered, sent_away, judged, unless, judge, step_in, step, is_refusal}
use Rattle.machine.proofs.Keeps.{nothing-same}
use Rattle.demand.specs.Demand.{Ranged}
use Rattle.demand.proofs.Theorem.{ranged-valid}
use Rattle.calls.specs.Calls.{memory_refusal, arm_refusal, arm_answer, arm_memory, call_answer, call_memory}
use Rattle.calls.proofs.Armed.{refusal-none, sound-memory, call-taken}
use Rattle.calls.proofs.Steps.{done, refused, acts, after-sound}
use Rattle.promises.proofs.Marked.{sound-marked}
use Rattle.promises.proofs.Fresh.{fresh-sound, accepted-made}

-- a sound memory that holds a state, with these numbers past it
pub record Holds (s : State) (past xs : List ℕ) : Type 0 where
  pub sound : is_sound xs ≡ true
  pub state : decode xs ≡ s
  pub rest : drop size xs ≡ past

stored-holds : (s : State) (xs : List ℕ) → SoundState s → Holds s (drop size xs) (stored s xs)
stored-holds s xs k =
    let fits : Fits s = sound-fits s k (made-parts s.part.profile (given-is-made s.part.profile k.given)) in
    record { sound = sound-stored s xs k; state = decode-stored s fits xs; rest = stored-rest s fits xs }

-- a sound memory meets no refusal
sound-ready : (xs : List ℕ) → is_sound xs ≡ true → memory_refusal xs ≡ 0
sound-ready xs h =
    let t = taken-apart xs h in
    sym (refusal-none xs t.long (λ z. omega (arith, sound-marked xs h)) true (sym h) refl)

-- memory that meets no refusal holds the state that it stands for; memory that holds a state meets none
pub ready-holds : (xs : List ℕ) → memory_refusal xs ≡ 0 → Holds (decode xs) (drop size xs) xs
ready-holds xs ready = record { sound = sound-memory xs ready; state = refl; rest = refl }

pub holds-ready : {s : State} {past xs : List ℕ} → Holds s past xs → memory_refusal xs ≡ 0
holds-ready h = sound-ready _ h.sound

-- ---- Arm

-- an accepted Arm met no refusal of the memory, and its text was accepted
module _ (memory text : List ℕ) (firm rules roots : ℕ) (ok : arm_answer memory text ≡ Accepted firm rules roots) where
  pub arm-accepts : (arm_refusal memory ≡ 0) × (reading_of (outcome_of text) ≡ Accepted firm rules roots)
  unfolding arm_answer
  arm-accepts = go (eqb (arm_refusal memory) 0) refl ok
    where
      go : (b : Bool) → eqb (arm_refusal memory) 0 ≡ b → cond b (reading_of (outcome_of text)) (NotRead (arm_refusal memory) 0) ≡ Accepted firm rules roots
          → (arm_refusal memory ≡ 0) × (reading_of (outcome_of text) ≡ Accepted firm rules roots)
      go true e h = (eqb-true (arm_refusal memory) 0 e, h)
      go false e h = let z : ◌≡◌ {A = ℕ} 0 1 = cc in absurd (omega arith)

  text-accepted : (outcome_of text).refusal ≡ 0
  text-accepted = (reading-accepted (outcome_of text) firm rules roots arm-accepts.1).0

  -- every limit of that text lies below what totals are held at
  pub arm-ranged : Ranged (outcome_of text).profile
  arm-ranged =
      let p = (outcome_of text).profile in
      ranged-valid (length p.roots) p.rules (made-parts p (accepted-made text text-accepted)).valid

  armed-is : stored (armed (outcome_of text).profile) memory ≡ arm_memory memory text
  unfolding arm_memory
  armed-is = rw (arm-accepts.0, text-accepted)

  -- it leaves the freshly armed state of the text's profile
  pub arm-holds : Holds (armed (outcome_of text).profile) (drop size memory) (arm_memory memory text)
  arm-holds =
      let p = (outcome_of text).profile in
      subst (Holds (armed p) (drop size memory)) armed-is
      (stored-holds (armed p) memory (fresh-sound p (accepted-made text text-accepted)))

-- ---- the other calls

-- where the machine acts, it does not answer with a refusal
pub acts-answered : (s : State) (call : Call) → is_refusal (judged s call).answer ≡ false
unfolding judged ordered offered filled sent_away is_refusal
acts-answered s (order time root reset) = refl
acts-answered s (lockout time level root) = refl
acts-answered s (offer o) = go (verdict_of s.part.locks o.root)
  where
    go : (verdict : ℕ) → is_refusal (offered s o verdict).answer ≡ false
    go zero = refl
    go (suc verdict) = refl
acts-answered s (remaining time rule unit) = refl
acts-answered s status = refl
acts-answered s (send o identity reports) = go (verdict_of s.part.locks o.root)
  where
    go : (verdict : ℕ) → is_refusal (sent_away o identity reports verdict).answer ≡ false
    go zero = refl
    go (suc verdict) = refl
acts-answered s (report time identity n) = refl
acts-answered s (close time identity) = refl

pub acts-unrefused : (s : State) (call : Call) (n : ℕ) → (judged s call).answer ≡ Refused n → ⊥
unfolding is_refusal
acts-unrefused s call n e = false≢true (sym (acts-answered s call) ∙ ap is_refusal e)

module _ (xs : List ℕ) (ready : memory_refusal xs ≡ 0) (call : Call) where
  -- a call on a sound memory leaves the machine's state
  call-stores : Holds (step (decode xs) call).after (drop size xs) (call_memory xs call)
  unfolding step step_in judge unless
  call-stores = go (refusal_of log_places (decode xs) call) refl
    where
      go : (n : ℕ) → refusal_of log_places (decode xs) call ≡ n
          → Holds (after (unless n (judged (decode xs) call)).deed (decode xs)) (drop size xs) (call_memory xs call)
      go zero e =
          subst (Holds (done xs call) (drop size xs)) (acts xs ready call e (acts-answered (decode xs) call)).1
          (stored-holds (done xs call) xs (after-sound xs ready call e))
      go (suc n) e =
          subst (λ (s : State). Holds s (drop size xs) (call_memory xs call)) (sym (nothing-same (decode xs)))
          (subst (Holds (decode xs) (drop size xs)) (refused xs ready call n e).1 (ready-holds xs ready))

-- so a memory that holds a state answers as the machine does, and holds the machine's state after
module _ {s : State} {past xs : List ℕ} (h : Holds s past xs) (call : Call) where
  pub call-answers : call_answer xs call ≡ (step s call).answer
  call-answers =
      sym (call-taken xs call 0 (sym (holds-ready h)) refl) ∙ ap (λ (now : State). (step now call).answer) h.state

  pub call-holds : Holds (step s call).after past (call_memory xs call)
  call-holds =
      subst (λ (now : State). Holds (step now call).after past (call_memory xs call)) h.state
      (subst (λ (rest : List ℕ). Holds (step (decode xs) call).after rest (call_memory xs call)) h.rest (call-stores xs (holds-ready h) call))
