-- What every call leaves as it was, and when it moves the clock. Assumes nothing.
use Prim.Native.Nat.{ℕ, zero, suc}
use mathlib.Core.Path.{◌≡◌, refl, sym, ◌∙◌}
use mathlib.Core.Bool.{true, false, false≢true}
use Rattle.machine.specs.declared.Offer.{Offer}
use Rattle.machine.specs.State.{State}
use Rattle.machine.specs.Calls.{Call, order, lockout, offer, remaining, status, send, report, close}
use Rattle.machine.specs.Locks.{verdict_of}
use Rattle.machine.specs.Refusals.{refusal_of}
use Rattle.machine.specs.Step.{part_after, after}
use Rattle.machine.specs.Judge.{filled, offered, ordered, sent_away, judged, unless, judge, step_in, is_refusal}
use Rattle.machine.proofs.Keeps.{nothing-same}
use Rattle.demand.specs.Moves.{Moves}
use Rattle.demand.proofs.Steps.{judged-timed}

-- what is judged is no refusal
offered-accepted : (s : State) (o : Offer) (verdict : ℕ) → is_refusal (offered s o verdict).answer ≡ false
unfolding offered filled is_refusal
offered-accepted s o zero = refl
offered-accepted s o (suc verdict) = refl

sent-accepted : (o : Offer) (identity reports verdict : ℕ) → is_refusal (sent_away o identity reports verdict).answer ≡ false
unfolding sent_away is_refusal
sent-accepted o identity reports zero = refl
sent-accepted o identity reports (suc verdict) = refl

judged-accepted : (s : State) (call : Call) → is_refusal (judged s call).answer ≡ false
unfolding judged ordered filled is_refusal
judged-accepted s (order time root reset) = refl
judged-accepted s (lockout time level root) = refl
judged-accepted s (offer o) = offered-accepted s o (verdict_of s.part.locks o.root)
judged-accepted s (remaining time rule unit) = refl
judged-accepted s status = refl
judged-accepted s (send o identity reports) = sent-accepted o identity reports (verdict_of s.part.locks o.root)
judged-accepted s (report time identity n) = refl
judged-accepted s (close time identity) = refl

-- a call moves what it moves, whatever room the log has
pub moves : (room : ℕ) (s : State) (call : Call) → Moves s call (step_in room s call)
unfolding step_in judge unless judged is_refusal after part_after
moves room s call = go (refusal_of room s call)
  where
    go : (n : ℕ) → Moves s call (record { answer = (unless n (judged s call)).answer; after = after (unless n (judged s call)).deed s })
    go zero = record {
      refused = λ e. absurd (false≢true (sym (judged-accepted s call) ∙ e));
      asked = λ e. rw e (nothing-same s);
      looked = λ e. rw e (nothing-same s);
      clock = λ e. judged-timed s call s.part.clock ∙ rw (judged-accepted s call);
      profile = refl;
    }
    go (suc n) = record {
      refused = λ e. nothing-same s;
      asked = λ e. nothing-same s;
      looked = λ e. nothing-same s;
      clock = λ e. absurd (false≢true (sym e));
      profile = refl;
    }
