-- Every call keeps a sound state sound, whichever profiles some accepted text gives. Assumes nothing.
use Prim.Native.Nat.{ℕ, ◌^◌, ◌≤◌, ◌<◌}
use mathlib.Core.Path.{◌≡◌, ◌∙◌}
use mathlib.Core.Bool.{Bool, true, false, cond}
use lib.ListN.{length}
use native.Mathlib.Nat.{lt_of_le_of_lt}
use Rattle.laws.specs.Folds.{every}
use Rattle.measures.specs.Ranges.{In, times}
use Rattle.bits.proofs.Words.{with-lt, without-le}
use Rattle.rules.specs.Valid.{has_rate}
use Rattle.rules.specs.declared.Level.TheVariants.{Firm, Root}
use Rattle.machine.specs.State.{Profile, State, rules_in, roots_in}
use Rattle.machine.specs.Effects.{zeroing, lifting}
use Rattle.machine.specs.Entries.{recent}
use Rattle.machine.specs.Calls.{Call, report}
use Rattle.machine.specs.Deeds.{reported, Deed, nothing, passing, filling, resetting, locking_out, sending, closing, clock_after}
use Rattle.machine.specs.Locks.{lifted, tripped_by, locked_out}
use Rattle.machine.specs.Order.{wiped}
use Rattle.machine.specs.Offers.{level_trips, longest}
use Rattle.machine.specs.Register.{fill_of}
use Rattle.machine.specs.Refusals.{refusal_of}
use Rattle.machine.specs.Step.{accounts_after, locks_after, log_after, part_after, after}
use Rattle.machine.specs.Judge.{judge, step_in, log_places}
use Rattle.machine.specs.Sound.{SoundIn}
use Rattle.machine.proofs.Lists.{every-imp, every_map}
use Rattle.machine.proofs.Keeps.{fitting-after}
use Rattle.machine.proofs.Totals.{is_paid, wiped-total, credited-totals}
use Rattle.machine.proofs.Refusals.{reportable}
use Rattle.machine.proofs.Register.{Registered}
use Rattle.machine.proofs.Meets.{Meets, registered-after, reported-meets, judge-meets}
use Rattle.machine.proofs.Places.{Placed, fill-place, use-after, judge-placed}
use Rattle.machine.proofs.Logged.{Logged, logged-later, logged-reset, joined-logged}

-- either of two numbers below k
below : (b : Bool) {m n k : ℕ} → m < k → n < k → cond b m n < k
below true h l = h
below false h l = l

module _ {Given : Profile → Type 0} (s : State) (i : SoundIn Given s) where
  log_is : Logged (rules_in s) (roots_in s) s.part.clock s.log
  log_is = record { number = i.number; none = i.none; ordered = i.ordered; entries = i.entries; flagged = i.flagged }

  clock-after : (deed : Deed) → Meets s deed → In times (clock_after deed s.part.clock)
  unfolding clock_after Meets
  clock-after nothing m = i.clock
  clock-after (passing time) m = m.range
  clock-after (filling source o n) m = m.time.range
  clock-after (resetting time root effect) m = m.range
  clock-after (locking_out time level) m = m.0.range
  clock-after (sending time sent) m = m.time.range
  clock-after (closing time identity) m = m.range

  totals-after : (deed : Deed) → Meets s deed → every is_paid (accounts_after deed s.part.accounts) ≡ true
  unfolding accounts_after Meets
  totals-after nothing m = i.totals
  totals-after (passing time) m = i.totals
  totals-after (filling source o n) m = credited-totals o n s.part.accounts i.totals
  totals-after (resetting time root effect) m =
      every_map is_paid (wiped (zeroing effect root)) s.part.accounts
      ∙ every-imp is_paid _ (wiped-total (zeroing effect root)) s.part.accounts i.totals
  totals-after (locking_out time level) m = i.totals
  totals-after (sending time sent) m = i.totals
  totals-after (closing time identity) m = i.totals

  tripped-after : (deed : Deed) → Meets s deed → (locks_after deed s).tripped < 2 ^ roots_in s
  unfolding locks_after lifted tripped_by locked_out Meets
  tripped-after nothing m = i.tripped
  tripped-after (passing time) m = i.tripped
  tripped-after (filling source o n) m =
      below (level_trips source s.log o n s.part.accounts (Root o.root)) (with-lt s.part.locks.tripped o.root (roots_in s) i.tripped m.root) i.tripped
  tripped-after (resetting time root effect) m =
      below (lifting effect root (Root root)) (lt_of_le_of_lt (without-le s.part.locks.tripped root) i.tripped) i.tripped
  tripped-after (locking_out time Firm) m = i.tripped
  tripped-after (locking_out time (Root root)) m = i.tripped
  tripped-after (sending time sent) m = i.tripped
  tripped-after (closing time identity) m = i.tripped

  by_user-after : (deed : Deed) → Meets s deed → (locks_after deed s).by_user < 2 ^ roots_in s
  unfolding locks_after lifted tripped_by locked_out Meets roots_in
  by_user-after nothing m = i.by_user
  by_user-after (passing time) m = i.by_user
  by_user-after (filling source o n) m = i.by_user
  by_user-after (resetting time root effect) m =
      below (lifting effect root (Root root)) (lt_of_le_of_lt (without-le s.part.locks.by_user root) i.by_user) i.by_user
  by_user-after (locking_out time Firm) m = i.by_user
  by_user-after (locking_out time (Root root)) m = with-lt s.part.locks.by_user root (roots_in s) i.by_user m.1
  by_user-after (sending time sent) m = i.by_user
  by_user-after (closing time identity) m = i.by_user

  log-after : (deed : Deed) → Meets s deed → Placed log_places s deed → Logged (rules_in s) (roots_in s) (clock_after deed s.part.clock) (log_after deed (rules_in s) s.log)
  unfolding clock_after log_after Meets rules_in
  log-after nothing m p = log_is
  log-after (passing time) m p = logged-later time m.after log_is
  log-after (filling source o n) m p = joined-logged s source o n m (fill-place log_places s i.in_use source o n m p) log_is
  log-after (resetting time root effect) m p = logged-reset (zeroing effect root) (logged-later time m.after log_is)
  log-after (locking_out time level) m p = logged-later time m.0.after log_is
  log-after (sending time sent) m p = logged-later time m.time.after log_is
  log-after (closing time identity) m p = logged-later time m.after log_is

  register-is : Registered (roots_in s) s.part.register
  register-is = record { few = i.few; registered = i.registered; different = i.different }

  -- a deed that meets a sound state and finds its places leaves a sound one
  pub deed-sound : (deed : Deed) → Meets s deed → Placed log_places s deed → SoundIn Given (after deed s)
  unfolding after part_after rules_in roots_in
  deed-sound deed m p =
      let l = log-after deed m p in
      let r = registered-after s register-is deed m in
      record {
        clock = clock-after deed m;
        given = i.given;
        fitting = fitting-after deed s i.fitting;
        totals = totals-after deed m;
        tripped = tripped-after deed m;
        by_user = by_user-after deed m;
        number = l.number;
        none = l.none;
        ordered = l.ordered;
        entries = l.entries;
        flagged = l.flagged;
        few = r.few;
        registered = r.registered;
        different = r.different;
        in_use = use-after log_places s i.in_use deed m p;
      }

-- EVERY CALL KEEPS A SOUND STATE SOUND
pub step-sound : {Given : Profile → Type 0} (room : ℕ) → room ≤ log_places → (s : State) (call : Call) → SoundIn Given s
    → SoundIn Given (step_in room s call).after
unfolding step_in
step-sound room few s call i =
    deed-sound s i (judge room s call).deed (judge-meets room s i.registered call) (judge-placed room log_places few s call)

-- A REPORT NEVER FINDS THE LOG FULL: one that is accepted in a sound state has a place
pub report-placed : {Given : Profile → Type 0} (room : ℕ) (s : State) (time identity n : ℕ) → SoundIn Given s
    → refusal_of room s (report time identity n) ≡ 0 → has_rate (rules_in s) ≡ true
    → length (recent (longest (rules_in s)) time s.log) < log_places
unfolding fill_of Meets Placed rules_in
report-placed room s time identity n i e has =
    let a = reportable room s time identity n e in
    fill-place log_places s i.in_use (reported identity) (fill_of s.part.register time identity n) n
    (reported-meets room s i.registered time identity n a) tt has a.contracts.0
