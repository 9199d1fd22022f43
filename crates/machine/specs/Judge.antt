-- How a call is judged: what it is answered, and what it does. Assumes nothing.
use Rattle.std.specs.Prelude.{ℕ, zero, suc, Bool, true, false, cond, List, [], ◌∷◌}
use Rattle.rules.specs.declared.Level.TheVariants.{Firm, Root}
use Rattle.machine.specs.declared.Offer.{Offer}
use Rattle.machine.specs.Answer.{Answer, Refused, Judged, Left, Standing}
use Rattle.machine.specs.State.{State}
use Rattle.machine.specs.Effects.{effect_of}
use Rattle.machine.specs.Deeds.{Source, granted, reported, Deed, nothing, passing, filling, resetting, locking_out, sending, closing}
use Rattle.machine.specs.Locks.{verdict_of}
use Rattle.machine.specs.Order.{level_named}
use Rattle.machine.specs.Offers.{grant_of, level_trips}
use Rattle.machine.specs.Remaining.{account_for, left_of, standing}
use Rattle.machine.specs.Calls.{Call, order, lockout, offer, remaining, status, send, report, close}
use Rattle.machine.specs.Register.{fill_of, sent_of}
use Rattle.machine.specs.Refusals.{refusal_of}
use Rattle.machine.specs.Step.{locks_after, after}

-- what a call is answered, and what it does
pub record Judgement : Type 0 where
  pub answer : Answer
  pub deed : Deed

-- so much is filled, of an offer or by a report
unfoldable pub filled : State → Source → Offer → ℕ → Judgement
filled s source o n = record {
  answer =
      Judged 0 n (level_trips source s.log o n s.part.accounts (Root o.root)) (level_trips source s.log o n s.part.accounts Firm);
  deed = filling source o n;
}

-- an offer by its verdict: granted, or locked out
unfoldable pub offered : State → Offer → ℕ → Judgement
offered s o zero = filled s granted o (grant_of s.log o s.part.accounts)
offered s o (suc verdict) = record { answer = Judged (suc verdict) 0 false false; deed = passing o.time }

-- an order: the reset comes first, then the verdict
unfoldable pub ordered : State → ℕ → Deed → Judgement
ordered s root deed = record { answer = Judged (verdict_of (locks_after deed s) root) 0 false false; deed = deed }

-- a sending by its verdict: the order enters the register, or is locked out
unfoldable pub sent_away : Offer → ℕ → ℕ → ℕ → Judgement
sent_away o identity reports zero = record { answer = Judged 0 0 false false; deed = sending o.time (sent_of o identity reports) }
sent_away o identity reports (suc verdict) = record { answer = Judged (suc verdict) 0 false false; deed = passing o.time }

-- a call that is not refused
unfoldable pub judged : State → Call → Judgement
judged s (order time root reset) = ordered s root (resetting time root (effect_of reset))
judged s (lockout time level root) = record { answer = Judged 0 0 false false; deed = locking_out time (level_named level root) }
judged s (offer o) = offered s o (verdict_of s.part.locks o.root)
judged s (remaining time rule unit) = record { answer = Left (left_of s time (account_for s.part rule unit)); deed = nothing }
judged s status = record { answer = Standing (standing s.part.locks); deed = nothing }
judged s (send o identity reports) = sent_away o identity reports (verdict_of s.part.locks o.root)
judged s (report time identity n) = filled s (reported identity) (fill_of s.part.register time identity n) n
judged s (close time identity) = record { answer = Judged 0 0 false false; deed = closing time identity }

-- a refusal does nothing at all
unfoldable pub unless : ℕ → Judgement → Judgement
unless zero judgement = judgement
unless (suc n) judgement = record { answer = Refused (suc n); deed = nothing }

-- a call on a log with so much room
unfoldable pub judge : ℕ → State → Call → Judgement
judge room s call = unless (refusal_of room s call) (judged s call)

-- what a call is answered, and the state that it leaves
pub record Result : Type 0 where
  pub answer : Answer
  pub after : State

-- a call: judged, and then carried out
unfoldable pub step_in : ℕ → State → Call → Result
step_in room s call = record { answer = (judge room s call).answer; after = after (judge room s call).deed s }

-- the number of places in the log
abbrev pub log_places : ℕ
log_places = 512

-- a call on a unit whose log has all its places
unfoldable pub step : State → Call → Result
step s call = step_in log_places s call

-- the row of document 01's numbers for an answer: the refusal first, then verdict, grant, root trip and firm trip; what remains; or how the roots
-- stand
unfoldable pub numbers : Answer → List ℕ
numbers (Refused n) = n ∷ 0 ∷ 0 ∷ 0 ∷ 0 ∷ []
numbers (Judged verdict grant roottrip firmtrip) = 0 ∷ verdict ∷ grant ∷ cond roottrip 1 0 ∷ cond firmtrip 1 0 ∷ []
numbers (Left n) = 0 ∷ n ∷ 0 ∷ 0 ∷ 0 ∷ []
numbers (Standing roots) = 0 ∷ roots.tripped ∷ roots.user ∷ roots.locked ∷ roots.lowest ∷ []

-- an answer that is a refusal
unfoldable pub is_refusal : Answer → Bool
is_refusal (Refused n) = true
is_refusal (Judged verdict grant roottrip firmtrip) = false
is_refusal (Left n) = false
is_refusal (Standing roots) = false
