-- Whatever is done on a sound state leaves it sound. Assumes nothing.
use Prim.Native.Nat.{ℕ, zero, suc, ◌+◌, ◌-◌, ◌≤◌, ◌<◌, max, zero-le}
use mathlib.Core.Path.{◌≡◌, refl, sym, ap, ◌∙◌, subst, subst⁻¹}
use mathlib.Core.Bool.{Bool, true, false, not, cond, ◌&&◌, false≢true}
use mathlib.Core.List.{List, [], ◌∷◌, ◌++◌, map, map-map, map-id}
use lib.ListN.{length, length-append, length-map}
use lib.Dec.{ltb, eqb}
use lib.Pow.{pow_pos}
use borrow.Author.Tests.{ltb-true, eqb-false, eq-eqb}
use native.Mathlib.Nat.{le_refl}
use native.Mathlib.Omega.{arith}
use Rattle.laws.proofs.Tests.{and_l, and_r}
use Rattle.laws.specs.Folds.{every, keep, sum_of}
use Rattle.rules.specs.Valid.{has_rate}
use Rattle.rules.specs.declared.Level.{Level}
use Rattle.rules.specs.declared.Rule.{Rule}
use Rattle.machine.specs.declared.Entry.{Entry}
use Rattle.machine.specs.State.{Profile, State, cells_of, rules_in, roots_in, account_rule, Fitting, no_locks, fresh, armed}
use Rattle.machine.specs.Entries.{is_entry, are_ordered, is_flagged, is_recent, recent}
use Rattle.machine.specs.Calls.{Call}
use Rattle.machine.specs.Deeds.{Source, Deed, nothing, passing, filling, resetting, locking_out, sending, closing, clock_after}
use Rattle.machine.specs.Effects.{zeroing}
use Rattle.machine.specs.Order.{unflagged, unflagged_log}
use Rattle.machine.specs.Offers.{longest, entry_of, joined_log}
use Rattle.machine.specs.Register.{are_different, kept_places}
use Rattle.machine.specs.Refusals.{first_of, used}
use Rattle.machine.specs.Step.{log_after, part_after, after}
use Rattle.machine.specs.Judge.{judge, step_in, log_places}
use Rattle.machine.specs.Sound.{SoundIn}
use Rattle.machine.proofs.Lists.{every-keep, keep-le, ordered-keep}
use Rattle.machine.proofs.Totals.{is_paid, nothing-total}
use Rattle.machine.proofs.Meets.{Meets, judge-meets}
use Rattle.machine.proofs.Places.{Placed, fill-place, judge-placed, use_kept}
use Rattle.machine.proofs.Sound.{step-sound}
use Rattle.firms.specs.Seats.{Seat, empty, taken, Seats, vacant, turned, facing, entries_in, use_of, own_places, room_beside, trimmed, trimmed_seat, left_by}
use Rattle.firms.specs.Doings.{Doing, arm, call, clear, is_taken, name_of, Beside, beside_of, joins, Outcome, stays, arm_refusal, armed_by, called_by, call_at, clear_at, at_seat, outcome_of, after_first, after_doing}
use Rattle.firms.specs.Sound.{SoundSeat, SoundSeats}
use Rattle.firms.proofs.Alike.{recent-recent}

-- ---- without old entries

pub trimmed-use : (s : State) → used (trimmed s) s.part.clock ≡ used s s.part.clock
unfolding used trimmed rules_in
trimmed-use s = rw (recent-recent (longest (rules_in s)) s.part.clock s.part.clock (le_refl s.part.clock) s.log)

pub left-use : (joined : Bool) (x : Seat) → use_of (left_by joined x) ≡ use_of x
unfolding use_of trimmed_seat trimmed
left-use true empty = refl
left-use true (taken s) = trimmed-use s
left-use false x = refl

left-taken : (joined : Bool) (x : Seat) → is_taken (left_by joined x) ≡ is_taken x
unfolding is_taken trimmed_seat
left-taken true empty = refl
left-taken true (taken s) = refl
left-taken false x = refl

left-name : (joined : Bool) (x : Seat) → name_of (left_by joined x) ≡ name_of x
unfolding name_of trimmed_seat trimmed
left-name true empty = refl
left-name true (taken s) = refl
left-name false x = refl

left-few : (joined : Bool) (x : Seat) → length (entries_in (left_by joined x)) ≤ length (entries_in x)
unfolding entries_in trimmed_seat trimmed recent
left-few true empty = le_refl 0
left-few true (taken s) = keep-le (is_recent (longest (rules_in s)) s.part.clock) s.log
left-few false x = le_refl _

-- a freshly armed firm counts nothing and uses nothing
fresh-totals : (rules : List Rule) → every is_paid (map fresh rules) ≡ true
unfolding every fresh
fresh-totals [] = refl
fresh-totals (rule ∷ rules) = rw (nothing-total rule) (fresh-totals rules)

armed-use : (p : Profile) → used (armed p) 0 ≡ 0
unfolding used armed recent keep kept_places sum_of
armed-use p = go (has_rate (rules_in (armed p)))
  where
    go : (b : Bool) → ◌≡◌ {A = ℕ} (cond b 0 0) 0
    go true = refl
    go false = refl

pub armed-none : (p : Profile) → use_of (taken (armed p)) ≡ 0
unfolding use_of armed
armed-none p = armed-use p

module _ (Given : Profile → Type 0) where
  trimmed-sound : (s : State) → SoundIn Given s → SoundIn Given (trimmed s)
  unfolding trimmed rules_in roots_in recent
  trimmed-sound s i =
      let test = is_recent (longest s.part.profile.rules) s.part.clock in
      record {
        clock = i.clock;
        given = i.given;
        fitting = i.fitting;
        totals = i.totals;
        tripped = i.tripped;
        by_user = i.by_user;
        number = omega (arith, keep-le test s.log, i.number);
        none = λ e. omega (arith, keep-le test s.log, i.none e);
        ordered = ordered-keep test 0 s.part.clock s.log i.ordered;
        entries = every-keep (is_entry (length s.part.profile.roots)) test s.log i.entries;
        flagged = every-keep is_flagged test s.log i.flagged;
        few = i.few;
        registered = i.registered;
        different = i.different;
        in_use = subst⁻¹ (λ (n : ℕ). n ≤ log_places) (trimmed-use s) i.in_use;
      }

  left-sound : (joined : Bool) (x : Seat) → SoundSeat Given x → SoundSeat Given (left_by joined x)
  unfolding SoundSeat trimmed_seat
  left-sound true empty i = tt
  left-sound true (taken s) i = trimmed-sound s i
  left-sound false x i = i

  -- the entries that are left are within the use
  left-used : (x : Seat) → SoundSeat Given x → length (entries_in (trimmed_seat x)) ≤ use_of x
  unfolding SoundSeat entries_in trimmed_seat trimmed use_of used recent
  left-used empty i = le_refl 0
  left-used (taken s) i = go (has_rate (rules_in s)) refl
    where
      inside : ℕ
      inside = length (recent (longest (rules_in s)) s.part.clock s.log)

      go : (b : Bool) → has_rate (rules_in s) ≡ b → inside ≤ cond b (inside + kept_places s.part.register) 0
      go true e = omega arith
      go false e = omega (arith, keep-le (is_recent (longest (rules_in s)) s.part.clock) s.log, i.none e)

  -- ---- a freshly armed firm

  armed-sound : (p : Profile) → Given p → SoundIn Given (armed p)
  unfolding armed no_locks Fitting fresh rules_in roots_in are_ordered are_different every
  armed-sound p given = record {
    clock = (zero-le, zero-le);
    given = given;
    fitting = map-map account_rule fresh (cells_of p.rules) ∙ map-id (cells_of p.rules);
    totals = fresh-totals (cells_of p.rules);
    tripped = pow_pos (length p.roots);
    by_user = pow_pos (length p.roots);
    number = zero-le;
    none = λ e. refl;
    ordered = refl;
    entries = refl;
    flagged = refl;
    few = zero-le;
    registered = refl;
    different = refl;
    in_use = omega (arith, armed-use p);
  }

-- ---- how many entries a deed leaves

log-few : (rules : List Rule) (log : List Entry) (deed : Deed) → joins rules deed ≡ false → length (log_after deed rules log) ≤ length log
unfolding joins log_after joined_log unflagged_log
log-few rules log nothing e = le_refl _
log-few rules log (passing time) e = le_refl _
log-few rules log (filling source o n) e = rw e (le_refl _)
log-few rules log (resetting time root effect) e =
    omega (arith, keep-le is_flagged (map (unflagged (zeroing effect root)) log), length-map log (unflagged (zeroing effect root)))
log-few rules log (locking_out time level) e = le_refl _
log-few rules log (sending time sent) e = le_refl _
log-few rules log (closing time identity) e = le_refl _

log-joined : (bound : ℕ) (s : State) → used s s.part.clock ≤ bound → (deed : Deed) → Meets s deed → Placed bound s deed → joins (rules_in s) deed ≡ true
    → length (log_after deed (rules_in s) s.log) ≤ bound
unfolding joins log_after joined_log rules_in
log-joined bound s below nothing m p e = absurd (false≢true e)
log-joined bound s below (passing time) m p e = absurd (false≢true e)
log-joined bound s below (filling source o n) m p e =
    let has = and_l (has_rate s.part.profile.rules) (ltb 0 n) e in
    let pos = ltb-true 0 n (and_r (has_rate s.part.profile.rules) (ltb 0 n) e) in
    let place = fill-place bound s below source o n m p has pos in
    rw e (omega (arith, place, length-append (recent (longest s.part.profile.rules) o.time s.log) (entry_of o n ∷ [])))
log-joined bound s below (resetting time root effect) m p e = absurd (false≢true e)
log-joined bound s below (locking_out time level) m p e = absurd (false≢true e)
log-joined bound s below (sending time sent) m p e = absurd (false≢true e)
log-joined bound s below (closing time identity) m p e = absurd (false≢true e)

-- ---- the state

module _ (Given : Profile → Type 0) where
  sound-turned : (u : Seats) → SoundSeats Given u → SoundSeats Given (turned u)
  unfolding turned
  sound-turned u i = record {
    first = i.second;
    second = i.first;
    differ = λ a b e. i.differ b a (sym e);
    entries = omega (arith, i.entries);
    uses = omega (arith, i.uses);
  }

  pub sound-facing : (firm : Bool) (u : Seats) → SoundSeats Given u → SoundSeats Given (facing firm u)
  unfolding facing
  sound-facing false u i = i
  sound-facing true u i = sound-turned u i

  module _ (s : State) (other : Seat) (i : SoundSeats Given (record { first = taken s; second = other })) where
    abbrev room : ℕ
    room = room_beside other

    abbrev bound : ℕ
    bound = log_places - use_of other

    own : SoundIn Given s
    unfolding SoundSeat
    own = i.first

    below : used s s.part.clock ≤ bound
    unfolding use_of
    below = omega (arith, i.uses)

    room-low : room ≤ bound
    unfolding room_beside
    room-low = omega arith

    abbrev called : Call → Seats
    called c = record {
      first = taken (after (judge room s c).deed s);
      second = left_by (joins (rules_in s) (judge room s c).deed) other;
    }

    called-sound : (c : Call) → SoundSeats Given (called c)
    unfolding SoundSeat use_of entries_in name_of is_taken after part_after step_in rules_in
    called-sound c =
        let deed = (judge room s c).deed in
        let j = joins (rules_in s) deed in
        let m = judge-meets room s own.registered c in
        let p = judge-placed room bound room-low s c in
        record {
          first = step-sound room (omega (arith, room-low)) s c own;
          second = left-sound Given j other i.second;
          differ = λ a b e. i.differ refl (sym (left-taken j other) ∙ b) (e ∙ left-name j other);
          entries = entries j refl (log-few s.part.profile.rules s.log deed) (log-joined bound s below deed m p);
          uses =
              omega (arith, left-use j other, use_kept room bound room-low s own.registered below c, i.uses);
        }
      where
        entries : (b : Bool) → joins s.part.profile.rules (judge room s c).deed ≡ b
            → (joins s.part.profile.rules (judge room s c).deed ≡ false → length (log_after (judge room s c).deed s.part.profile.rules s.log) ≤ length s.log)
            → (joins s.part.profile.rules (judge room s c).deed ≡ true → length (log_after (judge room s c).deed s.part.profile.rules s.log) ≤ bound)
            → length (log_after (judge room s c).deed s.part.profile.rules s.log) + length (entries_in (left_by (joins s.part.profile.rules (judge room s c).deed) other)) ≤ log_places
        entries true e few joined =
            rw e (omega (arith, joined e, left-used Given other i.second, i.uses))
        entries false e few joined = rw e (omega (arith, few e, i.entries))

  -- the profile that is armed is one that some accepted text gives
  unfoldable pub GivenBy : Doing → Type 0
  GivenBy (arm p) = Given p
  GivenBy (call c) = Unit {0}
  GivenBy clear = Unit {0}

  arm-sound : (other : Seat) (p : Profile) → Given p → (is_taken other && eqb p.firm (name_of other)) ≡ false
      → SoundSeats Given (record { first = empty; second = other }) → SoundSeats Given (record { first = taken (armed p); second = other })
  unfolding SoundSeat entries_in armed is_taken name_of
  arm-sound other p given free i = record {
    first = armed-sound Given p given;
    second = i.second;
    differ = λ a b e. clash (is_taken other) b free e;
    entries = i.entries;
    uses = omega (arith, i.uses, armed-none p);
  }
    where
      clash : (b : Bool) → b ≡ true → (b && eqb p.firm (name_of other)) ≡ false → p.firm ≡ name_of other → ⊥
      clash true t f e = eqb-false p.firm (name_of other) f e
      clash false t f e = false≢true t

  cleared-sound : (s : State) (other : Seat) → SoundSeats Given (record { first = taken s; second = other })
      → SoundSeats Given (record { first = empty; second = other })
  unfolding SoundSeat entries_in use_of is_taken
  cleared-sound s other i = record {
    first = tt;
    second = i.second;
    differ = λ a b e. false≢true a;
    entries = omega (arith, i.entries);
    uses = omega (arith, i.uses);
  }

  first-sound : (u : Seats) → SoundSeats Given u → (doing : Doing) → GivenBy doing → SoundSeats Given (after_first u doing)
  unfolding after_first outcome_of at_seat beside_of arm_refusal armed_by stays call_at called_by clear_at is_taken first_of GivenBy
  first-sound u i doing given = go u.first doing given i
    where
      other : Seat
      other = u.second

      go : (x : Seat) (doing : Doing) → GivenBy doing → SoundSeats Given (record { first = x; second = other })
          → SoundSeats Given (record { first = (at_seat (beside_of other) x doing).seat; second = left_by (at_seat (beside_of other) x doing).joined other })
      go (taken s) (arm p) given i = i
      go empty (arm p) given i = armed-by (is_taken other && eqb p.firm (name_of other)) refl
        where
          armed-by : (b : Bool) → (is_taken other && eqb p.firm (name_of other)) ≡ b
              → SoundSeats Given (record { first = (armed_by (cond b 7 0) empty p).seat; second = left_by (armed_by (cond b 7 0) empty p).joined other })
          armed-by true e = i
          armed-by false e = arm-sound other p given e i
      go (taken s) (call c) given i = called-sound s other i c
      go empty (call c) given i = i
      go (taken s) clear given i = cleared-sound s other i
      go empty clear given i = cleared (is_taken other)
        where
          cleared : (b : Bool) → SoundSeats Given (record { first = (clear_at b empty).seat; second = left_by (clear_at b empty).joined other })
          cleared true = i
          cleared false = i

  -- WHATEVER IS DONE FOR A FIRM LEAVES A SOUND STATE SOUND
  pub doing-sound : (firm : Bool) (u : Seats) → SoundSeats Given u → (doing : Doing) → GivenBy doing → SoundSeats Given (after_doing firm u doing)
  doing-sound firm u i doing given =
      sound-facing firm (after_first (facing firm u) doing) (first-sound (facing firm u) (sound-facing firm u i) doing given)

  pub vacant-sound : SoundSeats Given vacant
  unfolding vacant SoundSeat entries_in use_of is_taken
  vacant-sound = record { first = tt; second = tt; differ = λ a b e. false≢true a; entries = zero-le; uses = zero-le }
