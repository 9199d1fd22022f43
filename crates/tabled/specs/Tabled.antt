-- The day's table: what records leave of a state's memory and of its account, and the lines of the table. Assumes nothing.
use Rattle.std.specs.Prelude.{Result, ℕ, ◌+◌, not, cond, ◌||◌, List, [], ◌∷◌, ◌++◌, eqb}
use Rattle.text.specs.Digits.{name_bytes}
use Rattle.machine.specs.Answer.{Answer, Refused}
use Rattle.machine.specs.State.{Profile}
use Rattle.rules.specs.declared.Level.{Level}
use Rattle.rules.specs.declared.Level.TheVariants.{Firm, Root}
use Rattle.state.specs.State.{decode}
use Rattle.figures.specs.declared.Figures.{Figures}
use Rattle.figures.specs.Figures.{row_numbers}
use Rattle.figures.specs.Account.{row_of}
use Rattle.calls.specs.Calls.{memory_refusal}
use Rattle.records.specs.Event16.{read16_of}
use Rattle.records.specs.declared.Event16.{Event16}
use Rattle.std.specs.declared.result.Result.TheVariants.{Ok, Err}
use Rattle.refusals.specs.declared.Refusal.{Refusal}
use Rattle.refusals.specs.Numbers.{refusal_number}
use Rattle.answering.specs.Lines.{spaced}
use Rattle.answering.specs.Run.{record_call}
use Rattle.accounted.specs.Accounted.{is_short_account, accounted_answer, accounted_memory, account_after_call}

-- what a record is answered, and what it leaves of the memory and of the account: a faulty one is refused with 16 and counts nowhere
unfoldable pub tabled_answer : List ℕ → List ℕ → Result Event16 Refusal → Answer
tabled_answer xs account (Ok e) = accounted_answer xs account (record_call e)
tabled_answer xs account (Err r) = Refused (refusal_number r)

unfoldable pub tabled_memory : List ℕ → List ℕ → Result Event16 Refusal → List ℕ
tabled_memory xs account (Ok e) = accounted_memory xs account (record_call e)
tabled_memory xs account (Err r) = xs

unfoldable pub account_of : List ℕ → List ℕ → Result Event16 Refusal → List ℕ
account_of xs account (Ok e) = account_after_call xs account (record_call e)
account_of xs account (Err r) = account

-- the memory and the account after records, the first of them first
unfoldable pub memory_taken : List ℕ → List ℕ → List (List ℕ) → List ℕ
memory_taken xs account [] = xs
memory_taken xs account (s ∷ rest) = memory_taken (tabled_memory xs account (read16_of s)) (account_of xs account (read16_of s)) rest

unfoldable pub account_taken : List ℕ → List ℕ → List (List ℕ) → List ℕ
account_taken xs account [] = account
account_taken xs account (s ∷ rest) = account_taken (tabled_memory xs account (read16_of s)) (account_of xs account (read16_of s)) rest

-- a row's line: its name and its eight figures, one space between fields, LF at the end
unfoldable pub row_line : ℕ → Figures → List ℕ
row_line name figures = name_bytes name ++ spaced (row_numbers figures)

-- the lines of roots with these names, the first of which is root i
unfoldable pub root_lines : (Level → Figures) → ℕ → List ℕ → List ℕ
root_lines rows i [] = []
root_lines rows i (name ∷ names) = row_line name (rows (Root i)) ++ root_lines rows (i + 1) names

-- the table of one firm: a line for each root of its profile, in the roots' order, and then the firm's
unfoldable pub table_lines : Profile → (Level → Figures) → List ℕ
table_lines profile rows = root_lines rows 0 profile.roots ++ row_line profile.firm (rows Firm)

-- the table of a memory and an account: nothing of those that are refused
unfoldable pub table_text : List ℕ → List ℕ → List ℕ
table_text xs account =
    cond (is_short_account account || not (eqb (memory_refusal xs) 0)) []
    (table_lines (decode xs).part.profile (row_of account))
