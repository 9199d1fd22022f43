-- A day in which some calls keep an account is the day of the same calls without one, those left out that were refused for their account.
-- Assumes nothing.
use Rattle.std.specs.Prelude.{ℕ, ◌≡◌, ◌⊎◌, Bool, false, cond, ◌||◌, List, [], ◌∷◌, eqb}
use Rattle.rules.specs.Allowance.{All}
use Rattle.machine.specs.Answer.{Answer, Refused, Judged, Left, Standing}
use Rattle.demand.specs.Run.{Event}
use Rattle.calls.specs.Calls.{arm_memory}
use Rattle.figures.specs.Levels.{Above}
use Rattle.accounted.specs.declared.Event.{Event as Kept}
use Rattle.accounted.specs.Accounted.{call_of, accounted_answer, accounted_memory, account_after_call}
use Rattle.promises.specs.AnyDay.{AnyCall, state, called, AnyDay, after_any, any_from, AnyPromised}
use Rattle.promises.specs.AccountRefusals.{ShortAccount}

-- a call of such a day: any call of a day, or one that keeps an account, with the account that it is lent
pub data AccountCall : Type 0 where
  plain : AnyCall → AccountCall
  keeping : Kept → List ℕ → AccountCall

-- refused with 1, 2 or 21: for its account, or for a memory that no call passes
unfoldable pub is_for_account : Answer → Bool
is_for_account (Refused n) = eqb n 1 || (eqb n 2 || eqb n 21)
is_for_account (Judged verdict grant roottrip firmtrip) = false
is_for_account (Left n) = false
is_for_account (Standing roots) = false

-- a call that was refused so, and the account as it was lent and as it was left
pub record Aside : Type 0 where
  pub event : Event
  pub lent : List ℕ
  pub left : List ℕ

-- a day so far: the memory and the calls with their answers, and apart from them the calls that were refused for their account
pub record AccountDay : Type 0 where
  pub day : AnyDay
  pub aside : List Aside

-- a call that keeps an account, with its answer
abbrev pub account_event : List ℕ → Kept → List ℕ → Event
account_event memory event account = record { call = call_of event; answer = accounted_answer memory account (call_of event) }

-- one call more
unfoldable pub after_account : AccountDay → AccountCall → AccountDay
after_account d (plain call) = record { day = after_any d.day call; aside = d.aside }
after_account d (keeping event account) = record {
  day = record {
    memory = accounted_memory d.day.memory account (call_of event);
    history =
        cond (is_for_account (account_event d.day.memory event account).answer) d.day.history
        (called (account_event d.day.memory event account) ∷ d.day.history);
  };
  aside =
      cond (is_for_account (account_event d.day.memory event account).answer)
      (record {
        event = account_event d.day.memory event account;
        lent = account;
        left = account_after_call d.day.memory account (call_of event);
      }
      ∷ d.aside)
      d.aside;
}

-- a day goes on with these calls, the first of them first
unfoldable pub account_from : AccountDay → List AccountCall → AccountDay
account_from d [] = d
account_from d (call ∷ calls) = account_from (after_account d call) calls

-- the same calls without an account, those left out that are refused for it
unfoldable pub plain_calls : AccountDay → List AccountCall → List AnyCall
plain_calls d [] = []
plain_calls d (plain call ∷ calls) = call ∷ plain_calls (after_account d (plain call)) calls
plain_calls d (keeping event account ∷ calls) =
    cond (is_for_account (account_event d.day.memory event account).answer) (plain_calls (after_account d (keeping event account)) calls)
    (state (call_of event) ∷ plain_calls (after_account d (keeping event account)) calls)

-- no calls yet on a memory
abbrev pub begins : List ℕ → AccountDay
begins memory = record { day = record { memory = memory; history = [] }; aside = [] }

-- the account was left as it was lent
abbrev pub IsKept : Aside → Type 0
IsKept aside = aside.left ≡ aside.lent

-- what is promised of calls on any memory, those that keep an account among them
pub record SameDay (memory : List ℕ) (calls : List AccountCall) : Type 0 where
  -- the memory that the same calls leave without accounts, and the same answers
  pub same : (account_from (begins memory) calls).day ≡ any_from (begins memory).day (plain_calls (begins memory) calls)
  -- what was refused for its account left the account
  pub kept : All IsKept (account_from (begins memory) calls).aside

-- why a call was refused so on an armed unit: its account was short (1), had a figure above 10^18 (2), or a figure would have passed that (21)
unfoldable pub ForItsAccount : Aside → Type 0
ForItsAccount aside =
    ((aside.event.answer ≡ Refused 1) × ShortAccount aside.lent)
    ⊎ ((aside.event.answer ≡ Refused 2) × Above aside.lent)
    ⊎ (aside.event.answer ≡ Refused 21)

-- what is promised of a day that was armed with this text
pub record AccountDayPromised (memory text : List ℕ) (calls : List AccountCall) : Type 0 where
  -- all that is promised of a day without accounts
  pub promised :
      AnyPromised memory text (plain_calls (begins (arm_memory memory text)) calls) (account_from (begins (arm_memory memory text)) calls).day
  -- and the calls that it leaves out were refused for their account alone
  pub reasons : All ForItsAccount (account_from (begins (arm_memory memory text)) calls).aside
