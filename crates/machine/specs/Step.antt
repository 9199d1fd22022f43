-- What a deed leaves. Assumes nothing.
use Rattle.std.specs.Prelude.{List, map}
use Rattle.rules.specs.declared.Rule.{Rule}
use Rattle.rules.specs.declared.Account.{Account}
use Rattle.machine.specs.declared.Entry.{Entry}
use Rattle.machine.specs.State.{Locks, Part, State, rules_in}
use Rattle.machine.specs.Effects.{zeroing, lifting}
use Rattle.machine.specs.Deeds.{Deed, nothing, passing, filling, resetting, locking_out, sending, closing, clock_after}
use Rattle.machine.specs.Locks.{lifted, tripped_by, locked_out}
use Rattle.machine.specs.Order.{wiped, unflagged_log}
use Rattle.machine.specs.Offers.{level_trips, credited, joined_log}
use Rattle.machine.specs.Register.{register_after}

-- the accounts
unfoldable pub accounts_after : Deed → List Account → List Account
accounts_after nothing accounts = accounts
accounts_after (passing time) accounts = accounts
accounts_after (filling source o n) accounts = map (credited o n) accounts
accounts_after (resetting time root effect) accounts = map (wiped (zeroing effect root)) accounts
accounts_after (locking_out time level) accounts = accounts
accounts_after (sending time sent) accounts = accounts
accounts_after (closing time identity) accounts = accounts

-- the marks
unfoldable pub locks_after : Deed → State → Locks
locks_after nothing s = s.part.locks
locks_after (passing time) s = s.part.locks
locks_after (filling source o n) s = tripped_by (level_trips source s.log o n s.part.accounts) o.root s.part.locks
locks_after (resetting time root effect) s = lifted (lifting effect root) root s.part.locks
locks_after (locking_out time level) s = locked_out level s.part.locks
locks_after (sending time sent) s = s.part.locks
locks_after (closing time identity) s = s.part.locks

-- the log of a firm with these rules: a sending lets no entry leave
unfoldable pub log_after : Deed → List Rule → List Entry → List Entry
log_after nothing rules log = log
log_after (passing time) rules log = log
log_after (filling source o n) rules log = joined_log rules log o n
log_after (resetting time root effect) rules log = unflagged_log (zeroing effect root) log
log_after (locking_out time level) rules log = log
log_after (sending time sent) rules log = log
log_after (closing time identity) rules log = log

-- the firm's part
unfoldable pub part_after : Deed → State → Part
part_after deed s = record {
  clock = clock_after deed s.part.clock;
  profile = s.part.profile;
  accounts = accounts_after deed s.part.accounts;
  locks = locks_after deed s;
  register = register_after deed s.part.register;
}

-- the state
unfoldable pub after : Deed → State → State
after deed s = record { part = part_after deed s; log = log_after deed (rules_in s) s.log }
