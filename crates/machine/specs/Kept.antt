-- The machine that keeps the entries that count for neither root nor firm, and the answers that a machine gives. Assumes nothing.
use Rattle.std.specs.Prelude.{ℕ, ◌≡◌, List, [], ◌∷◌, map}
use Rattle.laws.specs.Folds.{keep}
use Rattle.rules.specs.Allowance.{All}
use Rattle.rules.specs.declared.Rule.{Rule}
use Rattle.machine.specs.declared.Entry.{Entry}
use Rattle.machine.specs.Answer.{Answer, Refused}
use Rattle.machine.specs.State.{State, rules_in}
use Rattle.machine.specs.Entries.{is_flagged}
use Rattle.machine.specs.Effects.{zeroing}
use Rattle.machine.specs.Calls.{Call}
use Rattle.machine.specs.Deeds.{Deed, nothing, passing, filling, resetting, locking_out, sending, closing}
use Rattle.machine.specs.Order.{unflagged}
use Rattle.machine.specs.Offers.{joined_log}
use Rattle.machine.specs.Step.{part_after}
use Rattle.machine.specs.Judge.{Result, judge}

-- the state without such entries
unfoldable pub dropped : State → State
dropped s = record { part = s.part; log = keep is_flagged s.log }

-- the log that a deed leaves if it keeps them: a reset clears flags, and no entry leaves
unfoldable pub kept_log : Deed → List Rule → List Entry → List Entry
kept_log nothing rules log = log
kept_log (passing time) rules log = log
kept_log (filling source o n) rules log = joined_log rules log o n
kept_log (resetting time root effect) rules log = map (unflagged (zeroing effect root)) log
kept_log (locking_out time level) rules log = log
kept_log (sending time sent) rules log = log
kept_log (closing time identity) rules log = log

-- the state that it leaves
abbrev pub kept_after : Deed → State → State
kept_after deed s = record { part = part_after deed s; log = kept_log deed (rules_in s) s.log }

-- a call on the machine that keeps them: judged as on the other
abbrev pub kept_step : ℕ → State → Call → Result
kept_step room s call = record { answer = (judge room s call).answer; after = kept_after (judge room s call).deed s }

-- the answers to calls, one after the other
unfoldable pub answers_of : (State → Call → Result) → State → List Call → List Answer
answers_of next s [] = []
answers_of next s (call ∷ calls) = (next s call).answer ∷ answers_of next (next s call).after calls

-- none of them is that the log is full
abbrev pub Roomy : List Answer → Type 0
Roomy answers = All (λ answer. answer ≡ Refused 15 → ⊥) answers
