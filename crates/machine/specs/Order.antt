-- What a reset does to an account and to the log, and the level that a lockout names. Assumes nothing.
use Rattle.std.specs.Prelude.{ℕ, zero, suc, Bool, not, cond, ◌&&◌, List, map}
use Rattle.laws.specs.Folds.{keep}
use Rattle.rules.specs.Amounts.{amount_in}
use Rattle.rules.specs.Rules.{level_of}
use Rattle.rules.specs.declared.Level.{Level}
use Rattle.rules.specs.declared.Level.TheVariants.{Firm, Root}
use Rattle.rules.specs.declared.Account.{Account}
use Rattle.machine.specs.declared.Entry.{Entry}
use Rattle.machine.specs.Entries.{is_flagged}

-- a total is zeroed where its rule is of one of these levels
unfoldable pub wiped : (Level → Bool) → Account → Account
wiped zeroes a = record { rule = a.rule; total = cond (zeroes (level_of a.rule.scope)) (amount_in a.rule.limit 0) a.total }

-- a flag is cleared where it is of one of these levels
unfoldable pub unflagged : (Level → Bool) → Entry → Entry
unflagged zeroes e = record {
  time = e.time;
  root = e.root;
  unit = e.unit;
  premium = e.premium;
  contracts = e.contracts;
  forroot = not (zeroes (Root e.root)) && e.forroot;
  forfirm = not (zeroes Firm) && e.forfirm;
}

-- the log without the flags of these levels, and without the entries that then count for neither root nor firm
unfoldable pub unflagged_log : (Level → Bool) → List Entry → List Entry
unflagged_log zeroes log = keep is_flagged (map (unflagged zeroes) log)

-- the level that a lockout names: 0 a root, 1 the firm
unfoldable pub level_named : ℕ → ℕ → Level
level_named zero root = Root root
level_named (suc n) root = Firm
