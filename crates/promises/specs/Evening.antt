-- The evening table of an input: its records are calls that keep an account, and the table has the figures of these calls and their answers.
-- Assumes nothing.
use Rattle.std.specs.Prelude.{Result, ℕ, ◌≡◌, List, [], ◌∷◌, ◌++◌}
use Rattle.state.specs.State.{decode}
use Rattle.calls.specs.Calls.{memory_refusal}
use Rattle.records.specs.Event16.{read16_of}
use Rattle.records.specs.declared.Event16.{Event16}
use Rattle.records.specs.declared.Event16.TheVariants.{Order, Offer, Lockout, Sending, Report, Closing}
use Rattle.std.specs.declared.result.Result.TheVariants.{Ok, Err}
use Rattle.refusals.specs.declared.Refusal.{Refusal}
use Rattle.answering.specs.Run.{milliseconds, offer_said, records_of}
use Rattle.figures.specs.History.{figures_in}
use Rattle.accounted.specs.declared.Event.{Event as Kept}
use Rattle.accounted.specs.declared.Event.TheVariants.{Order as kept_order, Lockout as kept_lockout, Offer as kept_offer, Send as kept_send, Report as kept_report, Close as kept_close}
use Rattle.tabled.specs.Tabled.{memory_taken, account_taken, table_lines, table_text}
use Rattle.promises.specs.Accounts.{Keeping, keeping_on, AtZeros, open_at_first}

-- the call that a record's event is, at its time in whole milliseconds
unfoldable pub kept_of : Event16 → Kept
kept_of (Order time root reset) = kept_order (milliseconds time) root reset
kept_of (Offer time root unit premium contracts) = kept_offer (offer_said time root unit premium contracts)
kept_of (Lockout time level root) = kept_lockout (milliseconds time) level root
kept_of (Sending time root unit premium contracts identity reports) =
    kept_send (offer_said time root unit premium contracts) identity reports
kept_of (Report time identity contracts) = kept_report (milliseconds time) identity contracts
kept_of (Closing time identity) = kept_close (milliseconds time) identity

-- a faulty record is no call
unfoldable pub kept_read : Result Event16 Refusal → List Kept
kept_read (Ok e) = kept_of e ∷ []
kept_read (Err r) = []

-- the calls of records, in their order
unfoldable pub kept_in : List (List ℕ) → List Kept
kept_in [] = []
kept_in (s ∷ rest) = kept_read (read16_of s) ++ kept_in rest

-- the calls of an input, on a memory and an account
unfoldable pub input_day : List ℕ → List ℕ → List ℕ → Keeping
input_day memory account input = keeping_on memory account (kept_in (records_of input))

-- what is promised of an input, whatever memory and account were lent
pub record TableKept (memory account input : List ℕ) : Type 0 where
  -- its records leave the memory and the account that its calls leave
  pub leaves : memory_taken memory account (records_of input) ≡ (input_day memory account input).memory
  pub counts : account_taken memory account (records_of input) ≡ (input_day memory account input).account
  -- on a memory that no call refuses, with an account begun at zeros, the table has a line for each root of the profile and one for the firm, and
  -- every figure is that of the calls and their answers
  pub table :
      memory_refusal memory ≡ 0 → AtZeros account
      → table_text (memory_taken memory account (records_of input)) (account_taken memory account (records_of input))
      ≡ table_lines (decode memory).part.profile (figures_in (open_at_first memory) (input_day memory account input).history)
