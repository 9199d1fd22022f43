-- What is promised of a day holds of every day: the memory follows the machine from an accepted Arm on, call by call, so what holds of the machine's
-- run holds of the day. Assumes nothing.
use Prim.Native.Nat.{ℕ, ◌<◌}
use native.Mathlib.Omega.{arith}
use mathlib.Core.Path.{◌≡◌, refl, sym, ap, ◌∙◌, subst⁻¹}
use mathlib.Core.List.{List, [], ◌++◌}
use lib.ListN.{drop}
use Rattle.tables.specs.Inner.Tables.{zeros}
use Rattle.profile.specs.Profile.{outcome_of}
use Rattle.profile.specs.Reading.{Accepted}
use Rattle.machine.specs.State.{State, armed}
use Rattle.state.specs.State.{size, decode}
use Rattle.state.proofs.Exactly.{taken-apart}
use Rattle.state.proofs.Exactly.{exactly}
use Rattle.machine.specs.Calls.{Call}
use Rattle.calls.specs.Calls.{arm_answer}
use Rattle.calls.proofs.Cases.{arm-marked, clear-done}
use Rattle.demand.specs.Run.{Event, run_of}
use Rattle.demand.specs.Demand.{Ranged, Demand3}
use Rattle.promises.proofs.Marked.{sound-marked}
use Rattle.promises.specs.Day.{Day, calls_on, day_of, NeverRefused, Promised, DayPromised}
use Rattle.promises.specs.AnyDay.{AnyCall, any_day_of, state_calls, state_events, AnyPromised}
use Rattle.demand.proofs.Theorem.{demand3}
use Rattle.demand.proofs.Words.{demand-words}
use Rattle.promises.proofs.Holds.{arm-holds, arm-ranged}
use Rattle.promises.proofs.Follows.{Follows, follows_on}
use Rattle.promises.proofs.Moved.{lent-moves}
use Rattle.promises.proofs.Goes.{goes_on}
use Rattle.promises.proofs.Never.{run-never}
use Rattle.promises.proofs.Unarmed.{cleared-idle}

-- WHAT FOLLOWS THE MACHINE IS PROMISED: a day whose memory and answers are those of the machine's run
pub follows-promised : (memory text : List ℕ) → Ranged (outcome_of text).profile → (calls : List Call) (day : Day) → Follows (drop size memory) (run_of (outcome_of text).profile calls) day
    → Promised memory text calls day
unfolding run_of NeverRefused
follows-promised memory text ranged calls day f =
    let profile = (outcome_of text).profile in
    let t = taken-apart day.memory f.holds.sound in
    let done = clear-done day.memory t.long in
    let demand =
    subst⁻¹ (λ (now : State). Demand3 profile.rules now day.history) f.holds.state
    (subst⁻¹ (λ (history : List Event). Demand3 profile.rules (run_of profile calls).now history) f.same (demand3 profile ranged calls)) in
    record {
      demand = demand;
      words = demand-words profile.rules (decode day.memory) day.history demand;
      moves = lent-moves day.memory;
      answers = f.same;
      state = f.holds.state;
      not_short = never 1 (omega arith);
      not_unsound = never 2 (omega arith);
      not_unarmed = never 4 (omega arith);
      sound = (exactly day.memory).1 f.holds.sound;
      past = f.holds.rest;
      armed_once =
          λ other. let three = arm-marked day.memory other t.long (λ z. omega (arith, sound-marked day.memory f.holds.sound)) in (sym three.0, sym three.1);
      clears = sym done.0;
      zeroed = sym done.1 ∙ ap (λ (past : List ℕ). zeros size ++ past) f.holds.rest;
      ended = cleared-idle day.memory t.long;
    }
  where
    never : (k : ℕ) → k < 12 → NeverRefused k day.history
    never k low =
        subst⁻¹ (NeverRefused k) f.same (run-never k low (record { now = armed (outcome_of text).profile; history = [] }) tt calls)

module _ (memory text : List ℕ) (firm rules roots : ℕ) (ok : arm_answer memory text ≡ Accepted firm rules roots) where
  -- EVERY DAY: for any memory, any text that Arm accepts into it, and any calls after
  pub day-promised : (calls : List Call) → DayPromised memory text calls
  unfolding DayPromised run_of day_of calls_on
  day-promised calls =
      follows-promised memory text (arm-ranged memory text firm rules roots ok) calls (day_of memory text calls)
      (follows_on (record { holds = arm-holds memory text firm rules roots ok; same = refl }) calls)

  -- AND EVERY DAY WITH ANY CALLS AT ALL up to the next Clear
  pub any-day-promised : (calls : List AnyCall) → AnyPromised memory text calls (any_day_of memory text calls)
  unfolding run_of any_day_of state_events
  any-day-promised calls =
      let g = goes_on (record { holds = arm-holds memory text firm rules roots ok; same = refl; usual = tt }) calls in
      record {
        promised = follows-promised memory text (arm-ranged memory text firm rules roots ok) (state_calls calls) _ (record { holds = g.holds; same = g.same });
        usual = g.usual;
      }
