-- When a call that keeps an account is refused, number by number, in the order in which it looks: 1, 4 and 2 for the memory or the account, what the
-- plain call refuses, and last 21. Assumes nothing.
use Rattle.std.specs.Prelude.{ℕ, suc, ◌+◌, ◌≤◌, ◌<◌, ◌≡◌, ◌↔◌, ◌⊎◌, true, false, List, length}
use Rattle.rules.specs.declared.Level.{Level}
use Rattle.machine.specs.Calls.{Call}
use Rattle.machine.specs.Judge.{log_places, numbers, is_refusal}
use Rattle.state.specs.Sound.{Sound}
use Rattle.calls.specs.Calls.{mark_of, call_answer, call_memory}
use Rattle.figures.specs.Account.{account_size, most, row_of, account_after}
use Rattle.figures.specs.Levels.{HasRow, columns, figure_at, WithinMost, Above}
use Rattle.figures.specs.History.{added_to}
use Rattle.accounted.specs.Accounted.{happening_in, accounted_answer, accounted_memory, account_after_call}
use Rattle.promises.specs.Refusals.{refusal_row, Short, Holding, ◌when◌else◌, none, refusals_of}

-- 1: the account memory is short
abbrev pub ShortAccount : List ℕ → Type 0
ShortAccount account = length account < account_size

-- 21: with the call counted, some figure of some row would pass 10^18
unfoldable pub Passing : List ℕ → List ℕ → Call → Type 0
Passing memory account call =
    (level : Level)
    × (HasRow level
    × ((column : ℕ)
    × ((column < columns) × (most < figure_at (row_of account level) column + figure_at (added_to level (happening_in memory call)) column))))

-- 1, 4 and 2 are for the memory or the account, then come the refusals of the plain call, and last 21
abbrev pub account_refusals : List ℕ → List ℕ → Call → ℕ → Type 0
account_refusals memory account call =
    1 when (Short memory ⊎ ShortAccount account) else 4 when (mark_of memory ≡ 0) else 2 when ((Sound memory → ⊥) ⊎ Above account) else
    (λ n. Holding memory (λ s. refusals_of log_places s call (21 when Passing memory account call else none) n))

pub record AccountRefusals (memory account : List ℕ) (call : Call) : Type 0 where
  -- it is refused with a number exactly if these give it, and not refused exactly if they give none
  pub refused : (n : ℕ) → (numbers (accounted_answer memory account call) ≡ refusal_row (suc n)) ↔ account_refusals memory account call (suc n)
  pub accepted : (is_refusal (accounted_answer memory account call) ≡ false) ↔ account_refusals memory account call 0
  -- then it answers as the plain call does and leaves the memory that this leaves, and the account has counted it
  pub done :
      is_refusal (accounted_answer memory account call) ≡ false
      → (accounted_answer memory account call ≡ call_answer memory call)
      × ((accounted_memory memory account call ≡ call_memory memory call)
      × (account_after_call memory account call ≡ account_after (happening_in memory call) account))
  -- a refusal changes no number of memory or account
  pub keeps :
      is_refusal (accounted_answer memory account call) ≡ true
      → (accounted_memory memory account call ≡ memory) × (account_after_call memory account call ≡ account)
