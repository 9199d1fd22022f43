-- What a rule may take for what the log counts for it, and the memos after that. Assumes nothing.
use Rattle.std.specs.Prelude.{ℕ, ◌≡◌, cond, List}
use Rattle.laws.specs.Folds.{sum_of}
use Rattle.rules.specs.Amounts.{amount_in}
use Rattle.rules.specs.Rules.{is_rate, counted_of}
use Rattle.rules.specs.declared.Amount.{Amount}
use Rattle.rules.specs.declared.Rule.{Rule}
use Rattle.machine.specs.declared.Entry.{Entry}
use Rattle.machine.specs.Entries.{entry_share}
use Rattle.daylog.specs.Inner.Sieve.{sieve_of}
use Rattle.daylog.specs.Inner.Memo.{recalled_of}
use Rattle.daylog.specs.declared.Two.{Two}

-- the rule counts as much with this amount as with what the log counts for it at a time: an absolute rule asks for neither
pub record IsLogged (log : List Entry) (rule : Rule) (time : ℕ) (amount : Amount) : Type 0 where
  pub same : (total : Amount) → counted_of rule.kind total amount ≡ counted_of rule.kind total (amount_in rule.limit (sum_of (entry_share rule time) log))

-- the memos after a rule was asked for: the last is that of a rate rule, and an absolute rule leaves them as they were
unfoldable pub memos_after : List Entry → Rule → ℕ → Two → Two
memos_after log rule time before = cond (is_rate rule.kind) (recalled_of (sieve_of rule time) log before) before
