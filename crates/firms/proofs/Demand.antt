-- Demand 3 holds for each firm on its own arming, whatever is done for the other meanwhile. Assumes nothing.
use Prim.Native.Nat.{ℕ, zero, suc, ◌≤◌}
use mathlib.Core.Path.{◌≡◌, refl, sym, ap, ◌∙◌, subst, subst⁻¹}
use mathlib.Core.Bool.{Bool, true, false, not, cond, ◌&&◌}
use mathlib.Core.List.{List, [], ◌∷◌, map}
use lib.Dec.{eqb}
use native.Mathlib.Nat.{le_refl}
use Rattle.rules.specs.Rules.{held}
use Rattle.rules.specs.Allowance.{All}
use Rattle.rules.specs.declared.Account.{Account}
use Rattle.machine.specs.State.{Profile, State, rules_in, roots_in, cells_of, account_rule, Fitting, armed}
use Rattle.machine.specs.Entries.{recent}
use Rattle.machine.specs.Offers.{counted, longest}
use Rattle.machine.specs.Calls.{Call}
use Rattle.machine.specs.Deeds.{Deed}
use Rattle.machine.specs.Refusals.{first_of}
use Rattle.machine.specs.Step.{after}
use Rattle.machine.specs.Judge.{judge}
use Rattle.demand.specs.Run.{Event}
use Rattle.demand.specs.History.{deed_of, deeds_of}
use Rattle.demand.specs.Locked.{counted_in}
use Rattle.demand.specs.Answers.{Told, Each}
use Rattle.demand.specs.Demand.{Ranged, Demand3}
use Rattle.demand.proofs.Lists.{all-imp₂}
use Rattle.demand.proofs.Invariant.{Right, Inv}
use Rattle.demand.proofs.Steps.{Step, judge-step}
use Rattle.demand.proofs.Theorem.{armed-inv, stands-demand}
use Rattle.firms.specs.Seats.{Seat, empty, taken, Seats, vacant, facing, seat_of, trimmed, trimmed_seat, left_by}
use Rattle.firms.specs.Doings.{Doing, arm, call, clear, Reply, refused, done, answered, is_taken, Beside, beside_of, Outcome, stays, arm_refusal, armed_by, called_by, call_at, clear_at, at_seat, outcome_of, after_first, reply_to, after_doing}
use Rattle.firms.specs.Runs.{Asked, of, clear_all, after_asked, seats_after, is_same, Day, day_by, day_after, day_of}
use Rattle.firms.proofs.Alike.{recent-recent, Proper, SameFrom, Fit, fits, counted_same}
use Rattle.firms.proofs.Days.{OfDoing, day_in, all-along}

-- ---- old entries count no more

module _ (p : Profile) (s : State) (h : List Deed) (i : Inv p s h) where
  inv-proper : Proper s
  unfolding Fitting
  inv-proper = record {
    fitting = i.same ∙ ap (λ (q : Profile). cells_of q.rules) (sym i.profile);
    registered = i.registered;
  }

  trimmed-inv : Inv p (trimmed s) h
  unfolding trimmed rules_in roots_in
  trimmed-inv =
      let top = longest s.part.profile.rules in
      let log' = recent top s.part.clock s.log in
      let same : SameFrom top s.part.clock s.log log' = λ t le. recent-recent top s.part.clock t le s.log in
      record {
        profile = i.profile;
        same = i.same;
        right =
            all-imp₂ {P = Right s h} {Q = Fit s inv-proper log' same} {R = Right (trimmed s) h}
            (λ a right fit. record {
              low = right.low;
              counts = λ t le. counted_same s inv-proper log' same t le a fit ∙ right.counts t le;
            })
            s.part.accounts i.right (fits s inv-proper log' same);
        kept = i.kept;
        tripped = i.tripped;
        by_user = i.by_user;
        clock = i.clock;
        registered = i.registered;
        opened = i.opened;
        orders = i.orders;
      }

-- ---- how a firm stands on the state, by its day

pub record Stands (day : Day) (s : State) : Type 0 where
  pub inv : Inv day.profile s (deeds_of day.events)
  pub told : Each (Told day.profile.rules) day.events

unfoldable pub SeatStands : Day → Seat → Type 0
SeatStands day empty = Unit {0}
SeatStands day (taken s) = Stands day s

left-stands : (day : Day) (joined : Bool) (x : Seat) → SeatStands day x → SeatStands day (left_by joined x)
unfolding SeatStands trimmed_seat
left-stands day true empty i = tt
left-stands day true (taken s) i = record { inv = trimmed-inv day.profile s (deeds_of day.events) i.inv; told = i.told }
left-stands day false x i = i

unfoldable pub RangedBy : Doing → Type 0
RangedBy (arm p) = Ranged p
RangedBy (call c) = Unit {0}
RangedBy clear = Unit {0}

-- what is done for a firm keeps it standing, and joins its day
own-stands : (beside : Beside) (day : Day) (x : Seat) → SeatStands day x → (doing : Doing) → RangedBy doing
    → SeatStands (day_by doing (at_seat beside x doing).reply day) (at_seat beside x doing).seat
unfolding at_seat arm_refusal call_at called_by clear_at is_taken first_of armed_by stays SeatStands day_by RangedBy deeds_of Each
own-stands beside day (taken s) i (arm p) ranged = i
own-stands beside day empty i (arm p) ranged = armed-by (beside.armed && eqb p.firm beside.name)
  where
    armed-by : (b : Bool) → SeatStands (day_by (arm p) (armed_by (cond b 7 0) empty p).reply day) (armed_by (cond b 7 0) empty p).seat
    armed-by true = tt
    armed-by false = record { inv = armed-inv p ranged; told = tt }
own-stands beside day (taken s) i (call c) ranged =
    let j = judge-step day.profile s (deeds_of day.events) i.inv beside.room c in
    called j
  where
    room : ℕ
    room = beside.room

    called : Step day.profile s (deeds_of day.events) c (judge room s c)
        → Stands (record { profile = day.profile; events = record { call = c; answer = (judge room s c).answer } ∷ day.events }) (after (judge room s c).deed s)
    called j = record {
      inv = subst⁻¹ (λ (deed : Deed). Inv day.profile (after (judge room s c).deed s) (deed ∷ deeds_of day.events)) j.deed j.inv;
      told = (j.told, i.told);
    }
own-stands beside day empty i (call c) ranged = tt
own-stands beside day (taken s) i clear ranged = tt
own-stands beside day empty i clear ranged = cleared beside.armed
  where
    cleared : (b : Bool) → SeatStands day (clear_at b empty).seat
    cleared true = tt
    cleared false = tt

abbrev pub RangedAsked : Asked → Type 0
RangedAsked x = OfDoing RangedBy x

-- what is promised of a firm that is armed on the state
pub record Promised (firm : Bool) (xs : List Asked) (s : State) : Type 0 where
  -- its profile is the one that it was last armed with, and demand 3 holds of its calls and answers since
  pub profile : s.part.profile ≡ (day_in firm xs).profile
  pub demand : Demand3 (day_in firm xs).profile.rules s (day_in firm xs).events

-- DEMAND 3 FOR EACH FIRM on its own arming, with the other armed, cleared and armed again meanwhile
pub demand3 : (firm : Bool) (xs : List Asked) → All RangedAsked xs → (s : State) → seat_of firm (seats_after vacant xs) ≡ taken s → Promised firm xs s
unfolding SeatStands
demand3 firm xs ranged s is =
    promised
    (subst (SeatStands (day_in firm xs)) is
    (all-along SeatStands RangedBy (λ day. tt) left-stands (λ other. own-stands (beside_of other)) firm xs ranged))
  where
    promised : Stands (day_in firm xs) s → Promised firm xs s
    promised st = record {
      profile = st.inv.profile;
      demand = stands-demand (day_in firm xs).profile s (day_in firm xs).events st.inv st.told;
    }
