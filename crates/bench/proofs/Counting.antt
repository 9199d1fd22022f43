-- Calls that keep an account, on the machine: what they answer and leave is what they do on memory that holds its state. Assumes nothing.
use Prim.Native.Nat.{ℕ}
use mathlib.Core.Path.{◌≡◌, ap, ◌∙◌}
use mathlib.Core.Bool.{Bool, true, false, not, cond}
use mathlib.Core.List.{List, [], ◌∷◌}
use lib.Dec.{eqb}
use Rattle.machine.specs.State.{State}
use Rattle.machine.specs.Calls.{Call}
use Rattle.machine.specs.Register.{sent_at}
use Rattle.machine.specs.Judge.{step, is_refusal}
use Rattle.machine.specs.Answer.{Answer, Refused}
use Rattle.demand.specs.Run.{Event}
use Rattle.calls.specs.Calls.{call_memory}
use Rattle.figures.specs.Happenings.{happening_of}
use Rattle.figures.specs.Account.{account_after, is_account}
use Rattle.accounted.specs.declared.Event.{Event as Kept}
use Rattle.accounted.specs.Accounted.{call_of, is_short_account, open_root, happening_in, account_counted, accounted_answer, accounted_memory, account_after_call}
use Rattle.promises.specs.Accounts.{Keeping, after_keeping, keeping_from}
use Rattle.promises.proofs.Holds.{Holds, holds-ready, call-answers, call-holds}
use Rattle.promises.proofs.Lent.{lent-account}

-- ---- on the machine

-- the refusal of an account: 1 or 2
unfoldable pub lent_on : List ℕ → ℕ
lent_on account = cond (is_short_account account) 1 (cond (not (is_account account)) 2 0)

-- the account with a call counted in it
unfoldable pub counted_on : State → List ℕ → Call → List ℕ
counted_on s account call = account_after (happening_of (λ identity. (sent_at s.part.register identity).root) call (step s call).answer) account

unfoldable pub answer_on : State → List ℕ → Call → Answer
answer_on s account call =
    cond (eqb (lent_on account) 0) (cond (is_account (counted_on s account call)) (step s call).answer (Refused 21)) (Refused (lent_on account))

-- the state, the account and the calls with their answers, the newest first
pub record Counted : Type 0 where
  pub state : State
  pub account : List ℕ
  pub history : List Event

unfoldable pub after_on : Counted → Call → Counted
after_on now call = record {
  state = cond (is_refusal (answer_on now.state now.account call)) now.state (step now.state call).after;
  account = cond (is_refusal (answer_on now.state now.account call)) now.account (counted_on now.state now.account call);
  history = record { call = call; answer = answer_on now.state now.account call } ∷ now.history;
}

unfoldable pub counted_from : Counted → List Kept → Counted
counted_from now [] = now
counted_from now (event ∷ events) = counted_from (after_on now (call_of event)) events

-- ---- on memory that holds the state

module _ {s : State} {past memory : List ℕ} (h : Holds s past memory) (account : List ℕ) (call : Call) where
  same-counted : account_counted memory account call ≡ counted_on s account call
  unfolding account_counted happening_in open_root counted_on
  same-counted =
      ap (λ (a : Answer). account_after (happening_of (open_root memory) call a) account) (call-answers h call)
      ∙ ap (λ (t : State). account_after (happening_of (λ identity. (sent_at t.part.register identity).root) call (step s call).answer) account) h.state

  same_answer : accounted_answer memory account call ≡ answer_on s account call
  unfolding accounted_answer answer_on lent_on
  same_answer = rw (lent-account memory account (holds-ready h), same-counted, call-answers h call)

  same-account : account_after_call memory account call ≡ cond (is_refusal (answer_on s account call)) account (counted_on s account call)
  unfolding account_after_call
  same-account = rw (same_answer, same-counted)

  same_memory : Holds (cond (is_refusal (answer_on s account call)) s (step s call).after) past (accounted_memory memory account call)
  unfolding accounted_memory
  same_memory = rw same_answer (go (is_refusal (answer_on s account call)))
    where
      go : (b : Bool) → Holds (cond b s (step s call).after) past (cond b memory (call_memory memory call))
      go true = h
      go false = call-holds h call

-- the machine and lent memory that have come equally far
pub record Beside (past : List ℕ) (now : Counted) (day : Keeping) : Type 0 where
  pub holds : Holds now.state past day.memory
  pub account : day.account ≡ now.account
  pub history : day.history ≡ now.history

pub beside-on : {past : List ℕ} {now : Counted} {day : Keeping} → Beside past now day → (events : List Kept)
    → Beside past (counted_from now events) (keeping_from day events)
unfolding counted_from keeping_from after_keeping after_on
beside-on {past = past} {now = now} {day = day} b [] = b
beside-on {past = past} {now = now} {day = day} b (event ∷ events) =
    beside-on {past = past} {now = after_on now (call_of event)} {day = after_keeping day event} (next (call_of event)) events
  where
    next : (call : Call) → Beside past (after_on now call) (record {
      memory = accounted_memory day.memory day.account call;
      account = account_after_call day.memory day.account call;
      history = record { call = call; answer = accounted_answer day.memory day.account call } ∷ day.history;
    })
    next call =
        rw b.account
        (record {
          holds = same_memory b.holds now.account call;
          account = same-account b.holds now.account call;
          history = λ i. record { call = call; answer = same_answer b.holds now.account call i } ∷ b.history i;
        })
