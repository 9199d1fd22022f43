-- Memory in which a state is laid out, as the functions within the library ask for it. Assumes nothing.
use Rattle.std.specs.Prelude.{ℕ, ◌≤◌, ◌≡◌, true, List, ◌++◌, map, length, get_or, take, drop, set}
use Rattle.laws.specs.Folds.{every}
use Rattle.rules.specs.Amounts.{is_of}
use Rattle.rules.specs.Valid.{is_rule}
use Rattle.rules.specs.declared.Amount.{Amount}
use Rattle.rules.specs.declared.Account.{Account}
use Rattle.machine.specs.declared.Entry.{Entry}
use Rattle.machine.specs.State.{State, Locks, rules_in, roots_in, Fitting}
use Rattle.machine.specs.Entries.{is_entry}
use Rattle.machine.specs.Register.{is_sent}
use Rattle.machine.specs.declared.Sent.{Sent}
use Rattle.machine.specs.Remaining.{no_account}
use Rattle.state.specs.State.{size, stored, decode}

-- a state whose tables have room, whose accounts are those of its rules, and whose rules, totals' measures, entries and orders sent away are valid
pub record Fits (s : State) : Type 0 where
  pub roots : roots_in s ≤ 64
  pub rules : length (rules_in s) ≤ 256
  pub log : length s.log ≤ 512
  pub fitting : Fitting s.part
  pub measured : every (λ a. is_of a.rule.limit a.total) s.part.accounts ≡ true
  pub valid : every (is_rule (roots_in s)) (rules_in s) ≡ true
  pub entries : every (is_entry (roots_in s)) s.log ≡ true
  pub few : length s.part.register ≤ 64
  pub sent : every (is_sent (roots_in s)) s.part.register ≡ true

-- a memory that holds just the numbers of the state that it stands for
pub record Laid (xs : List ℕ) : Type 0 where
  pub long : size ≤ length xs
  pub is : xs ≡ stored (decode xs) xs
  pub fits : Fits (decode xs)

-- the account at place i of the state in a memory
abbrev pub account_in : List ℕ → ℕ → Account
account_in xs i = get_or (decode xs).part.accounts i no_account

-- a state with another clock, other locks, another register, another log, and other accounts
abbrev pub with_clock : State → ℕ → State
with_clock s clock = record {
  part = record { clock = clock; profile = s.part.profile; accounts = s.part.accounts; locks = s.part.locks; register = s.part.register };
  log = s.log;
}

abbrev pub with_locks : State → Locks → State
with_locks s locks = record {
  part = record { clock = s.part.clock; profile = s.part.profile; accounts = s.part.accounts; locks = locks; register = s.part.register };
  log = s.log;
}

abbrev pub with_register : State → List Sent → State
with_register s register = record {
  part = record { clock = s.part.clock; profile = s.part.profile; accounts = s.part.accounts; locks = s.part.locks; register = register };
  log = s.log;
}

abbrev pub with_log : State → List Entry → State
with_log s log = record { part = s.part; log = log }

abbrev pub with_accounts : State → List Account → State
with_accounts s accounts = record {
  part = record { clock = s.part.clock; profile = s.part.profile; accounts = accounts; locks = s.part.locks; register = s.part.register };
  log = s.log;
}

-- accounts of which those from one place up to another went through f
unfoldable pub between : (Account → Account) → ℕ → ℕ → List Account → List Account
between f from to accounts = take from accounts ++ (map f (drop from (take to accounts)) ++ drop to accounts)

-- the account at place i with another total
abbrev pub with_total : State → ℕ → Amount → State
with_total s i total = with_accounts s (set s.part.accounts i (record { rule = (get_or s.part.accounts i no_account).rule; total = total }))
