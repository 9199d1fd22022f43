-- What a call answers that keeps an account, and what it leaves of the unit's memory and of the account. Assumes nothing.
use Rattle.std.specs.Prelude.{ℕ, Bool, not, cond, ◌&&◌, ◌||◌, List, [], ◌∷◌, length, eqb, ltb}
use Rattle.machine.specs.Answer.{Answer, Refused}
use Rattle.machine.specs.Calls.{Call, order, lockout, offer, send, report, close}
use Rattle.machine.specs.Register.{sent_at}
use Rattle.machine.specs.Refusals.{first_of}
use Rattle.machine.specs.Judge.{is_refusal}
use Rattle.state.specs.State.{decode}
use Rattle.state.specs.Sound.{is_sound}
use Rattle.calls.specs.Calls.{is_short, mark_of, call_answer, call_memory}
use Rattle.figures.specs.declared.Happening.{Happening}
use Rattle.figures.specs.Happenings.{happening_of}
use Rattle.figures.specs.Account.{account_size, account_after, is_account}
use Rattle.accounted.specs.declared.Event.{Event}
use Rattle.accounted.specs.declared.Event.TheVariants.{Order, Lockout, Offer, Send, Report, Close}

-- the call of an event
unfoldable pub call_of : Event → Call
call_of (Order time root reset) = order time root reset
call_of (Lockout time level root) = lockout time level root
call_of (Offer o) = offer o
call_of (Send o identity reports) = send o identity reports
call_of (Report time identity contracts) = report time identity contracts
call_of (Close time identity) = close time identity

-- 1: state memory or account memory is short
unfoldable pub is_short_account : List ℕ → Bool
is_short_account account = ltb (length account) account_size

-- 1, 4, and 2 for a state that is not sound or an account with a figure above 10^18
unfoldable pub lent_refusal : List ℕ → List ℕ → ℕ
lent_refusal memory account =
    first_of (
    (is_short memory || is_short_account account, 1) ∷ (eqb (mark_of memory) 0, 4) ∷ (not (is_sound memory && is_account account), 2) ∷ []
    )

-- the root of the order that is open under an identity
unfoldable pub open_root : List ℕ → ℕ → ℕ
open_root memory identity = (sent_at (decode memory).part.register identity).root

-- what the call is to the account, by what the plain call answers
unfoldable pub happening_in : List ℕ → Call → Happening
happening_in memory call = happening_of (open_root memory) call (call_answer memory call)

-- the account with the call counted in it
unfoldable pub account_counted : List ℕ → List ℕ → Call → List ℕ
account_counted memory account call = account_after (happening_in memory call) account

-- the answer is the plain call's; 21, the last refusal, comes exactly where a figure would pass 10^18
unfoldable pub accounted_answer : List ℕ → List ℕ → Call → Answer
accounted_answer memory account call =
    cond (eqb (lent_refusal memory account) 0) (cond (is_account (account_counted memory account call)) (call_answer memory call) (Refused 21))
    (Refused (lent_refusal memory account))

-- a refusal changes neither memory nor account; otherwise the memory is what the plain call leaves, and the account has counted the call
unfoldable pub accounted_memory : List ℕ → List ℕ → Call → List ℕ
accounted_memory memory account call = cond (is_refusal (accounted_answer memory account call)) memory (call_memory memory call)

unfoldable pub account_after_call : List ℕ → List ℕ → Call → List ℕ
account_after_call memory account call =
    cond (is_refusal (accounted_answer memory account call)) account (account_counted memory account call)
