-- Calls that keep an account, on lent memory: each applies its event to the memory and counts it in the account, or refuses it and changes neither.
-- What is promised of the account after them, whatever memory and account were lent. Assumes nothing.
use Rattle.std.specs.Prelude.{ℕ, ◌≡◌, List, [], ◌∷◌, drop, take}
use Rattle.rules.specs.declared.Level.{Level}
use Rattle.machine.specs.declared.Sent.{Sent}
use Rattle.tables.specs.Inner.Tables.{zeros}
use Rattle.state.specs.State.{decode}
use Rattle.demand.specs.Run.{Event}
use Rattle.figures.specs.Figures.{plus}
use Rattle.figures.specs.Account.{account_size, row_of}
use Rattle.figures.specs.Levels.{HasRow, WithinMost, AddsUp}
use Rattle.figures.specs.History.{figures_in}
use Rattle.accounted.specs.declared.Event.{Event as Kept}
use Rattle.accounted.specs.Accounted.{call_of, accounted_answer, accounted_memory, account_after_call}

-- ---- the calls

-- how far they have come: the memory and the account now, and the calls with their answers, the newest first
pub record Keeping : Type 0 where
  pub memory : List ℕ
  pub account : List ℕ
  pub history : List Event

-- one call more
unfoldable pub after_keeping : Keeping → Kept → Keeping
after_keeping day event = record {
  memory = accounted_memory day.memory day.account (call_of event);
  account = account_after_call day.memory day.account (call_of event);
  history = record { call = call_of event; answer = accounted_answer day.memory day.account (call_of event) } ∷ day.history;
}

-- they go on with these, the first of them first
unfoldable pub keeping_from : Keeping → List Kept → Keeping
keeping_from day [] = day
keeping_from day (event ∷ events) = keeping_from (after_keeping day event) events

-- these calls on a memory and an account, with no call before them
unfoldable pub keeping_on : List ℕ → List ℕ → List Kept → Keeping
keeping_on memory account events = keeping_from (record { memory = memory; account = account; history = [] }) events

-- ---- what is promised

-- an account begun at zeros
abbrev pub AtZeros : List ℕ → Type 0
AtZeros account = take account_size account ≡ zeros account_size

-- the orders that were open away when the account began
abbrev pub open_at_first : List ℕ → List Sent
open_at_first memory = (decode memory).part.register

-- what is promised of calls that began with this memory and this account
pub record AccountKept (memory account : List ℕ) (day : Keeping) : Type 0 where
  -- every row is the row before and what the calls and their answers add up to
  pub figures :
      (level : Level) → HasRow level
      → row_of day.account level ≡ plus (row_of account level) (figures_in (open_at_first memory) day.history level)
  -- in an account begun at zeros every figure is that of the calls and their answers
  pub begun :
      AtZeros account → (level : Level) → HasRow level → row_of day.account level ≡ figures_in (open_at_first memory) day.history level
  -- and the firm's figures are the sums over the roots, trips apart; so they stay wherever they were before
  pub sums : AtZeros account → AddsUp (row_of day.account)
  pub sums_stay : AddsUp (row_of account) → AddsUp (row_of day.account)
  -- no figure passes 10^18 where none was above it
  pub within : WithinMost account → WithinMost day.account
  -- the numbers past the account are as they were
  pub past : drop account_size day.account ≡ drop account_size account
