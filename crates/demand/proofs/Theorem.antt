-- Demand 3 holds of every run. Assumes nothing.
use Prim.Native.Nat.{ℕ, ◌<◌, zero-le}
use mathlib.Core.Path.{◌≡◌, refl, sym, ap, ◌∙◌, subst⁻¹}
use mathlib.Core.Logic.{◌↔◌}
use mathlib.Core.Bool.{true, false, ◌&&◌, false≢true, and-false}
use mathlib.Core.List.{List, [], ◌∷◌, map}
use lib.Pow.{pow_pos}
use Rattle.bits.proofs.Words.{bit-beyond}
use Rattle.laws.proofs.Tests.{tests}
use Rattle.measures.specs.Ranges.{totals}
use Rattle.rules.specs.Rules.{level_of, counted_of, held, ceiling}
use Rattle.rules.specs.Allowance.{All}
use Rattle.rules.specs.Valid.{is_rule}
use Rattle.rules.specs.Units.{of_unit}
use Rattle.rules.specs.declared.Level.{Level}
use Rattle.rules.specs.declared.Level.TheVariants.{Firm, Root}
use Rattle.rules.specs.declared.Kind.{Kind}
use Rattle.rules.specs.declared.Kind.TheVariants.{Rate, Absolute}
use Rattle.rules.specs.declared.Rule.{Rule}
use Rattle.laws.specs.Folds.{every, sum_of, any_of}
use Rattle.rules.proofs.Amounts.{number_in}
use Rattle.rules.proofs.Held.{ceiling-low}
use Rattle.machine.specs.State.{Profile, State, cells_of, account_rule, no_locks, fresh, armed}
use Rattle.machine.specs.Deeds.{Deed, nothing, passing, filling, resetting, locking_out, sending, closing}
use Rattle.machine.specs.Locks.{is_tripped, is_by_user}
use Rattle.machine.specs.Offers.{counted, same_level}
use Rattle.machine.specs.Register.{is_open, are_different}
use Rattle.machine.specs.Calls.{Call}
use Rattle.machine.specs.Judge.{log_places, step_in, step}
use Rattle.machine.proofs.Lists.{every-all}
use Rattle.machine.proofs.Cells.{cell_in, cells-all}
use Rattle.machine.proofs.Totals.{limit-range}
use Rattle.demand.specs.Run.{Event, Run, after_call, run_from, run_of}
use Rattle.demand.specs.Away.{sends, closes}
use Rattle.demand.specs.History.{deeds_of, lifts}
use Rattle.demand.specs.Locked.{counted_in, trips_on, locks_out, rule_trips, locks, LockedBy}
use Rattle.demand.specs.Answers.{since, locked_in, clock_of, Told, Each}
use Rattle.demand.specs.Demand.{Ranged, Demand3}
use Rattle.demand.proofs.Lists.{all-make, all-imp, all_map, all-mem, any_none}
use Rattle.demand.proofs.Past.{Kept, kept-within}
use Rattle.demand.proofs.Since.{since-by}
use Rattle.demand.proofs.Invariant.{clock_in, Right, Inv}
use Rattle.demand.proofs.Tells.{locked-now}
use Rattle.demand.proofs.Steps.{judge-step}

-- what locks does not lift
pub no-lift : (rules : List Rule) (level : Level) (deed : Deed) (earlier : List Deed) → locks rules level deed earlier ≡ true → lifts level deed ≡ false
unfolding lifts locks locks_out rule_trips trips_on
no-lift rules level nothing earlier e = refl
no-lift rules level (passing time) earlier e = refl
no-lift rules level (filling source o n) earlier e = refl
no-lift rules level (resetting time root effect) earlier e = absurd (false≢true (sym (rw (none level rules)) ∙ e))
  where
    none : (level : Level) (rules : List Rule) → any_of (λ (rule : Rule). same_level (level_of rule.scope) level && false) rules ≡ false
    none level rules = any_none _ (λ rule. and-false (same_level (level_of rule.scope) level)) rules
no-lift rules level (locking_out time other) earlier e = refl
no-lift rules level (sending time sent) earlier e = refl
no-lift rules level (closing time identity) earlier e = refl

pub locked-by : (rules : List Rule) (level : Level) (deeds : List Deed) → (locked_in rules level deeds ≡ true) ↔ LockedBy rules level deeds
locked-by rules level deeds = since-by (lifts level) (locks rules level) (no-lift rules level) deeds

-- what sends does not close
no-close : (identity : ℕ) (deed : Deed) (earlier : List Deed) → sends identity deed ≡ true → closes identity deed ≡ false
unfolding sends closes
no-close identity nothing earlier e = refl
no-close identity (passing time) earlier e = refl
no-close identity (filling source o n) earlier e = refl
no-close identity (resetting time root effect) earlier e = refl
no-close identity (locking_out time level) earlier e = refl
no-close identity (sending time sent) earlier e = refl
no-close identity (closing time other) earlier e = absurd (false≢true e)

-- the limits of valid rules lie below what totals are held at
pub ranged-valid : (roots : ℕ) (rules : List Rule) → every (is_rule roots) rules ≡ true → All (λ rule. ceiling rule.limit < totals.most) rules
unfolding is_rule
ranged-valid roots rules h =
    all-imp (λ rule valid. ceiling-low rule.limit (limit-range rule.limit (search tests depth 6))) rules (every-all (is_rule roots) rules h)

module _ (p : Profile) (ranged : Ranged p) where
  -- a freshly armed state counts nothing, and has nothing locked
  armed-right : (rule : Rule) → ceiling rule.limit < totals.most → Right (armed p) [] (fresh rule)
  unfolding armed fresh counted counted_in sum_of counted_of held
  armed-right rule low = record { low = low; counts = λ t le. rw (number_in rule.limit 0) (go rule.kind) }
    where
      go : (kind : Kind) → ◌≡◌ {A = ℕ} (counted_of kind 0 0) (held kind 0)
      go (Rate w) = refl
      go Absolute = refl

  armed-tripped : (level : Level) → is_tripped no_locks level ≡ false
  unfolding is_tripped no_locks
  armed-tripped Firm = refl
  armed-tripped (Root r) = rw (bit-beyond 0 0 r (pow_pos 0) zero-le)

  armed-by_user : (level : Level) → is_by_user no_locks level ≡ false
  unfolding is_by_user no_locks
  armed-by_user Firm = refl
  armed-by_user (Root r) = rw (bit-beyond 0 0 r (pow_pos 0) zero-le)

  armed-rules : (rules : List Rule) → map account_rule (map fresh rules) ≡ rules
  unfolding fresh
  armed-rules [] = refl
  armed-rules (rule ∷ rest) = ap (λ (l : List Rule). rule ∷ l) (armed-rules rest)

  pub armed-inv : Inv p (armed p) []
  unfolding armed since Kept clock_in of_unit is_open any_of every are_different
  armed-inv = record {
    profile = refl;
    same = armed-rules (cells_of p.rules);
    right =
        all_map (Right (armed p) []) fresh (cells_of p.rules)
        (all-imp armed-right (cells_of p.rules)
        (cells-all (λ rule. ceiling rule.limit < totals.most) (λ rule. ceiling rule.limit < totals.most) (λ rule unit known low. low) p.rules ranged));
    kept = all-make (λ rule. tt) (cells_of p.rules);
    tripped = armed-tripped;
    by_user = armed-by_user;
    clock = refl;
    registered = record { few = zero-le; registered = refl; different = refl };
    opened = λ identity. refl;
    orders = λ identity o. absurd (false≢true o);
  }

-- how a run stands: the invariant, and each event told
pub record Stands (p : Profile) (run : Run) : Type 0 where
  pub inv : Inv p run.now (deeds_of run.history)
  pub told : Each (Told p.rules) run.history

call-stands : (p : Profile) (run : Run) → Stands p run → (call : Call) → Stands p (after_call run call)
unfolding after_call deeds_of Each step step_in
call-stands p run i call =
    let j = judge-step p run.now (deeds_of run.history) i.inv log_places call in
    record {
      inv = subst⁻¹ (λ (deed : Deed). Inv p (step run.now call).after (deed ∷ deeds_of run.history)) j.deed j.inv;
      told = (j.told, i.told);
    }

run-stands : (p : Profile) (run : Run) (calls : List Call) → Stands p run → Stands p (run_from run calls)
unfolding run_from
run-stands p run [] i = i
run-stands p run (call ∷ calls) i = run-stands p (after_call run call) calls (call-stands p run i call)

-- the clock that the deeds leave is the one that calls and answers tell
clock-told : (rules : List Rule) (history : List Event) → Each (Told rules) history → clock_in (deeds_of history) ≡ clock_of history
unfolding clock_in deeds_of clock_of Each
clock-told rules [] t = refl
clock-told rules (event ∷ earlier) t = rw (clock-told rules earlier t.1) (t.0.timed (clock_of earlier))

-- what stands so keeps the demand
pub stands-demand : (p : Profile) (now : State) (history : List Event) → Inv p now (deeds_of history) → Each (Told p.rules) history
    → Demand3 p.rules now history
stands-demand p now history i told =
    let deeds = deeds_of history in
    record {
      sums =
          λ rule m unit known.
          kept-within (of_unit rule unit) deeds (all-mem (λ r. Kept r deeds) (cells_of p.rules) (cell_in rule unit known p.rules m) i.kept);
      locks_exactly = λ level. rw (locked-now p now deeds i level) (locked-by p.rules level deeds);
      meaning = locked-by p.rules;
      opened = λ identity. rw (i.opened identity) (since-by (closes identity) (λ deed earlier. sends identity deed) (no-close identity) deeds);
      orders = i.orders;
      answers = told;
      clock = i.clock ∙ clock-told p.rules history told;
    }

-- every run stands so
pub stands : (p : Profile) → Ranged p → (calls : List Call) → Stands p (run_of p calls)
unfolding run_of deeds_of Each
stands p ranged calls = run-stands p (record { now = armed p; history = [] }) calls (record { inv = armed-inv p ranged; told = tt })

-- THE DEMAND: for any profile whose limits lie below what totals are held at, and any calls
pub demand3 : (p : Profile) → Ranged p → (calls : List Call) → Demand3 p.rules (run_of p calls).now (run_of p calls).history
demand3 p ranged calls =
    stands-demand p (run_of p calls).now (run_of p calls).history (stands p ranged calls).inv (stands p ranged calls).told

-- and the profile is still the one that the unit was armed with
pub same-profile : (p : Profile) → Ranged p → (calls : List Call) → (run_of p calls).now.part.profile ≡ p
same-profile p ranged calls = (stands p ranged calls).inv.profile
