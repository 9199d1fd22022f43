-- Each call, refused or not: its answer tells what it does, keeps the invariant, and is told by what was done before. Assumes nothing.
use Prim.Native.Nat.{ℕ, zero, suc}
use mathlib.Core.Path.{◌≡◌, refl, sym, ap, ◌∙◌}
use mathlib.Core.Bool.{true, false, cond, false≢true}
use mathlib.Core.List.{List, ◌∷◌}
use Rattle.machine.specs.State.{Profile, State}
use Rattle.machine.specs.Answer.{Refused}
use Rattle.machine.specs.declared.Offer.{Offer}
use Rattle.machine.specs.Deeds.{reported, Deed, nothing, filling, clock_after}
use Rattle.machine.specs.Locks.{verdict_of}
use Rattle.machine.specs.Calls.{Call, order, lockout, offer, remaining, status, send, report, close}
use Rattle.machine.specs.Register.{fill_of}
use Rattle.machine.specs.Refusals.{refusal_of}
use Rattle.machine.specs.Step.{after}
use Rattle.machine.specs.Judge.{Judgement, filled, offered, ordered, sent_away, judged, unless, judge, is_refusal}
use Rattle.machine.proofs.Refusals.{reportable}
use Rattle.machine.proofs.Meets.{judge-meets}
use Rattle.demand.specs.History.{if_accepted, if_granted, if_sent, deed_of, contracts_of}
use Rattle.demand.specs.Answers.{sets_to, granted_by, Told}
use Rattle.demand.proofs.Keeps.{deed-keeps}
use Rattle.demand.proofs.Invariant.{Inv}
use Rattle.demand.proofs.Tells.{fill-same}
use Rattle.demand.proofs.Judges.{judged-same}

-- a refusal tells of nothing done
refused-deed : (h : List Deed) (call : Call) (n : ℕ) → deed_of h call (Refused n) ≡ nothing
unfolding deed_of if_accepted if_granted if_sent
refused-deed h (order time root reset) n = refl
refused-deed h (lockout time level root) n = refl
refused-deed h (offer o) n = refl
refused-deed h (remaining time rule unit) n = refl
refused-deed h status n = refl
refused-deed h (send o identity reports) n = refl
refused-deed h (report time identity m) n = refl
refused-deed h (close time identity) n = refl

offered-deed : (s : State) (h : List Deed) (o : Offer) (verdict : ℕ)
    → (deed_of h (offer o) (offered s o verdict).answer ≡ (offered s o verdict).deed)
    × (contracts_of (offered s o verdict).deed ≡ granted_by (offered s o verdict).answer)
unfolding offered filled deed_of if_granted contracts_of granted_by
offered-deed s h o zero = (refl, refl)
offered-deed s h o (suc verdict) = (refl, refl)

sent-deed : (h : List Deed) (o : Offer) (identity reports verdict : ℕ)
    → (deed_of h (send o identity reports) (sent_away o identity reports verdict).answer ≡ (sent_away o identity reports verdict).deed)
    × (contracts_of (sent_away o identity reports verdict).deed ≡ granted_by (sent_away o identity reports verdict).answer)
unfolding sent_away deed_of if_sent contracts_of granted_by
sent-deed h o identity reports zero = (refl, refl)
sent-deed h o identity reports (suc verdict) = (refl, refl)

-- what a call does that is not refused is what its answer tells, and no contracts are answered as grant beside it
pub judged-deed : (p : Profile) (s : State) (h : List Deed) → Inv p s h → (room : ℕ) (call : Call) → refusal_of room s call ≡ 0
    → (deed_of h call (judged s call).answer ≡ (judged s call).deed) × (contracts_of (judged s call).deed ≡ granted_by (judged s call).answer)
unfolding judged ordered filled deed_of if_accepted contracts_of granted_by
judged-deed p s h i room (order time root reset) e = (refl, refl)
judged-deed p s h i room (lockout time level root) e = (refl, refl)
judged-deed p s h i room (offer o) e = offered-deed s h o (verdict_of s.part.locks o.root)
judged-deed p s h i room (remaining time rule unit) e = (refl, refl)
judged-deed p s h i room status e = (refl, refl)
judged-deed p s h i room (send o identity reports) e = sent-deed h o identity reports (verdict_of s.part.locks o.root)
judged-deed p s h i room (report time identity n) e = (
  ap (λ (o : Offer). filling (reported identity) o n) (sym (fill-same p s h i time identity n (reportable room s time identity n e).opened)),
  refl,
)
judged-deed p s h i room (close time identity) e = (refl, refl)

-- a call that is not refused sets the clock to its time, Remaining apart
offered-timed : (s : State) (o : Offer) (verdict c : ℕ)
    → clock_after (offered s o verdict).deed c ≡ cond (is_refusal (offered s o verdict).answer) c o.time
unfolding offered filled clock_after is_refusal
offered-timed s o zero c = refl
offered-timed s o (suc verdict) c = refl

sent-timed : (o : Offer) (identity reports verdict c : ℕ)
    → clock_after (sent_away o identity reports verdict).deed c ≡ cond (is_refusal (sent_away o identity reports verdict).answer) c o.time
unfolding sent_away clock_after is_refusal
sent-timed o identity reports zero c = refl
sent-timed o identity reports (suc verdict) c = refl

pub judged-timed : (s : State) (call : Call) (c : ℕ) → clock_after (judged s call).deed c ≡ cond (is_refusal (judged s call).answer) c (sets_to call c)
unfolding judged ordered filled fill_of clock_after is_refusal sets_to
judged-timed s (order time root reset) c = refl
judged-timed s (lockout time level root) c = refl
judged-timed s (offer o) c = offered-timed s o (verdict_of s.part.locks o.root) c
judged-timed s (remaining time rule unit) c = refl
judged-timed s status c = refl
judged-timed s (send o identity reports) c = sent-timed o identity reports (verdict_of s.part.locks o.root) c
judged-timed s (report time identity n) c = refl
judged-timed s (close time identity) c = refl

-- what one call keeps and tells
pub record Step (p : Profile) (s : State) (h : List Deed) (call : Call) (j : Judgement) : Type 0 where
  pub deed : deed_of h call j.answer ≡ j.deed
  pub inv : Inv p (after j.deed s) (j.deed ∷ h)
  pub told : Told p.rules (record { call = call; answer = j.answer }) h

-- on a log with any room that it may have
pub judge-step : (p : Profile) (s : State) (h : List Deed) (i : Inv p s h) (room : ℕ) (call : Call)
    → Step p s h call (judge room s call)
unfolding judge unless is_refusal contracts_of granted_by clock_after
judge-step p s h i room call = go (refusal_of room s call) refl (deed-keeps p s h i (judge room s call).deed (judge-meets room s i.registered.registered call))
  where
    after-this : Deed → Type 0
    after-this deed = Inv p (after deed s) (deed ∷ h)

    go : (n : ℕ) → refusal_of room s call ≡ n → after-this (unless n (judged s call)).deed → Step p s h call (unless n (judged s call))
    go zero e inv =
        let told = judged-deed p s h i room call e in
        record {
          deed = told.0;
          inv = inv;
          told = record {
            told = λ no. judged-same p s h i room call e;
            timed = λ c. ap (λ (d : Deed). clock_after d c) told.0 ∙ judged-timed s call c;
            summed = ap contracts_of told.0 ∙ told.1;
          };
        }
    go (suc n) e inv = record {
      deed = refused-deed h call (suc n);
      inv = inv;
      told = record {
        told = λ no. absurd (false≢true (sym no));
        timed = λ c. rw (refused-deed h call (suc n));
        summed = rw (refused-deed h call (suc n));
      };
    }
