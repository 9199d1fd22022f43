-- A firm's day on the state is a day of the machine that has one firm alone, but for 15. Assumes nothing.
use Prim.Native.Nat.{ℕ, zero, suc, ◌+◌, ◌-◌, ◌≤◌, max}
use mathlib.Core.Path.{◌≡◌, refl, sym, ap, ap₂, ◌∙◌, subst, subst⁻¹}
use mathlib.Core.Bool.{Bool, true, false, not, cond, ◌&&◌, false≢true}
use mathlib.Core.List.{List, [], ◌∷◌, ◌++◌}
use lib.Dec.{eqb, leb, ltb}
use borrow.Author.Tests.{leb-true, le-leb, ltb-true, lt-ltb}
use native.Mathlib.Omega.{arith}
use Rattle.rules.specs.Allowance.{All}
use Rattle.rules.specs.Valid.{has_rate}
use Rattle.machine.specs.Answer.{Answer, Refused}
use Rattle.machine.specs.declared.Offer.{Offer}
use Rattle.machine.specs.State.{Profile, State, rules_in, armed}
use Rattle.machine.specs.Calls.{Call, order, lockout, offer, remaining, status, send, report, close}
use Rattle.machine.specs.Locks.{verdict_of}
use Rattle.machine.specs.Offers.{grant_of}
use Rattle.machine.specs.Refusals.{first_of, used, log_full, no_places, refusal_of}
use Rattle.machine.specs.Step.{after}
use Rattle.machine.specs.Judge.{Judgement, judged, unless, judge, step_in, step, log_places}
use Rattle.demand.specs.Run.{Event, Run, after_call, run_from, run_of}
use Rattle.firms.specs.Seats.{Seat, empty, taken, Seats, vacant, facing, seat_of, room_beside, trimmed_seat, left_by}
use Rattle.firms.specs.Doings.{Doing, arm, call, clear, Reply, refused, done, answered, is_taken, name_of, Beside, beside_of, Outcome, stays, arm_refusal, armed_by, called_by, call_at, clear_at, at_seat, outcome_of, after_first, reply_to, after_doing}
use Rattle.firms.specs.Runs.{Asked, of, clear_all, after_asked, seats_after, Day, day_by, NeverRefused}
use Rattle.firms.proofs.Alike.{Alike, Together, alike-step}
use Rattle.firms.proofs.Seats.{armed-proper, alike_self, AlikeSeat, trim-alike}
use Rattle.firms.proofs.Apart.{judge-rooms}
use Rattle.firms.proofs.Places.{told-number, never-refusal}
use Rattle.firms.proofs.Days.{day_in, Anything, all-anything, all-along}

-- ---- what is not 15 with less room is not 15 with more

last_more : (earlier : List (Bool × ℕ)) (x y : Bool) → (y ≡ true → x ≡ true)
    → first_of (earlier ++ ((y, 15) ∷ [])) ≡ 15 → first_of (earlier ++ ((x, 15) ∷ [])) ≡ 15
unfolding first_of
last_more [] x true h e = rw (h refl)
last_more [] x false h e = absurd (omega arith)
last_more (test ∷ earlier) x y h e = go (last_more earlier x y h) test.0 e
  where
    go : (first_of (earlier ++ ((y, 15) ∷ [])) ≡ 15 → first_of (earlier ++ ((x, 15) ∷ [])) ≡ 15)
        → (b : Bool) → cond b test.1 (first_of (earlier ++ ((y, 15) ∷ []))) ≡ 15 → cond b test.1 (first_of (earlier ++ ((x, 15) ∷ []))) ≡ 15
    go on true e = e
    go on false e = on e

and-more : (a : Bool) {x y : Bool} → (y ≡ true → x ≡ true) → (a && y) ≡ true → (a && x) ≡ true
and-more true h e = h e
and-more false h e = e

module _ (room more : ℕ) (le : room ≤ more) (s : State) where
  full-more : (o : Offer) → log_full more s o ≡ true → log_full room s o ≡ true
  unfolding log_full
  full-more o =
      and-more (eqb (verdict_of s.part.locks o.root) 0 && ltb 0 (grant_of s.log o s.part.accounts) && has_rate (rules_in s)) more-used
    where
      more-used : leb more (used s o.time) ≡ true → leb room (used s o.time) ≡ true
      more-used h = le-leb room (used s o.time) (omega (arith, le, leb-true more (used s o.time) h))

  places-more : (o : Offer) (reports : ℕ) → no_places more s o reports ≡ true → no_places room s o reports ≡ true
  unfolding no_places
  places-more o reports = and-more (eqb (verdict_of s.part.locks o.root) 0 && has_rate (rules_in s)) more-used
    where
      more-used : ltb more (used s o.time + reports) ≡ true → ltb room (used s o.time + reports) ≡ true
      more-used h = lt-ltb room (used s o.time + reports) (omega (arith, le, ltb-true more (used s o.time + reports) h))

  pub refusal-more : (c : Call) → refusal_of more s c ≡ 15 → refusal_of room s c ≡ 15
  unfolding refusal_of
  refusal-more (order time root reset) e = e
  refusal-more (lockout time level root) e = e
  refusal-more (offer o) e = last_more (_ ∷ _ ∷ _ ∷ []) (log_full room s o) (log_full more s o) (full-more o) e
  refusal-more (remaining time rule unit) e = e
  refusal-more status e = e
  refusal-more (send o identity reports) e =
      last_more (_ ∷ _ ∷ _ ∷ _ ∷ _ ∷ []) (no_places room s o reports) (no_places more s o reports) (places-more o reports) e
  refusal-more (report time identity n) e = e
  refusal-more (close time identity) e = e

  judge-more : (c : Call) → (judge more s c).answer ≡ Refused 15 → (judge room s c).answer ≡ Refused 15
  unfolding judge unless
  judge-more c e =
      let n : refusal_of more s c ≡ 15 = told-number (refusal_of more s c) (judged s c) (never-refusal s c) e in
      ap (λ (k : ℕ). (unless k (judged s c)).answer) (refusal-more c n)

  -- a call that is not refused with 15 is judged as with more room
  pub same_more : (c : Call) → ((judge room s c).answer ≡ Refused 15 → ⊥) → judge room s c ≡ judge more s c
  same_more c none = judge-rooms room more s c none (λ e. none (judge-more c e))

-- ---- a firm's day as a run

-- a run of the machine with one firm whose history is the firm's day, and whose state is alike
pub record AsAlone (day : Day) (s : State) : Type 0 where
  pub calls : List Call
  pub history : (run_of day.profile calls).history ≡ day.events
  pub alike : Alike s (run_of day.profile calls).now

unfoldable SeatAlone : Day → Seat → Type 0
SeatAlone day empty = Unit {0}
SeatAlone day (taken s) = NeverRefused 15 day.events → AsAlone day s

run-last : (run : Run) (calls : List Call) (c : Call) → run_from run (calls ++ (c ∷ [])) ≡ after_call (run_from run calls) c
unfolding run_from
run-last run [] c = refl
run-last run (x ∷ calls) c = run-last (after_call run x) calls c

left_alone : (day : Day) (joined : Bool) (x : Seat) → SeatAlone day x → SeatAlone day (left_by joined x)
unfolding SeatAlone trimmed_seat AlikeSeat
left_alone day true empty i = tt
left_alone day true (taken s) i =
    λ none. let a = i none in
    record { calls = a.calls; history = a.history; alike = trim-alike true (taken s) (taken (run_of day.profile a.calls).now) a.alike }
left_alone day false x i = i

-- one call more of the firm, with the room that the other leaves
called-alone : (room : ℕ) → room ≤ log_places → (day : Day) (s : State) → AsAlone day s → (c : Call) → ((judge room s c).answer ≡ Refused 15 → ⊥)
    → AsAlone (record { profile = day.profile; events = record { call = c; answer = (judge room s c).answer } ∷ day.events }) (after (judge room s c).deed s)
unfolding run_of after_call step step_in
called-alone room few day s a c none =
    let run = run_of day.profile a.calls in
    let now = run.now in
    let t = alike-step a.alike room c in
    let more : judge room s c ≡ judge log_places now c =
    sym t.judgement ∙ same_more room log_places few now c (λ e. none (ap (λ (j : Judgement). j.answer) (sym t.judgement) ∙ e)) in
    let start : Run = record { now = armed day.profile; history = [] } in
    let is = run-last start a.calls c in
    record {
      calls = a.calls ++ (c ∷ []);
      history =
          ap (λ (r : Run). r.history) is
          ∙ ap₂ (λ (j : Judgement) (h : List Event). record { call = c; answer = j.answer } ∷ h) (sym more) a.history;
      alike =
          subst⁻¹ (λ (r : Run). Alike (after (judge room s c).deed s) r.now) is
          (subst (λ (j : Judgement). Alike (after (judge room s c).deed s) (after j.deed now)) more t.left);
    }

own_alone : (other : Seat) (day : Day) (x : Seat) → SeatAlone day x → (doing : Doing)
    → SeatAlone (day_by doing (at_seat (beside_of other) x doing).reply day) (at_seat (beside_of other) x doing).seat
unfolding at_seat beside_of arm_refusal call_at called_by clear_at is_taken first_of armed_by stays SeatAlone day_by NeverRefused run_of run_from room_beside
own_alone other day (taken s) i (arm p) = i
own_alone other day empty i (arm p) = armed-by (is_taken other && eqb p.firm (name_of other))
  where
    armed-by : (b : Bool) → SeatAlone (day_by (arm p) (armed_by (cond b 7 0) empty p).reply day) (armed_by (cond b 7 0) empty p).seat
    armed-by true = tt
    armed-by false = λ none. record { calls = []; history = begun; alike = begun-alike }
      where
        begun : (run_of p []).history ≡ []
        begun = refl

        begun-alike : Alike (armed p) (run_of p []).now
        begun-alike = alike_self (armed p) (armed-proper p)
own_alone other day (taken s) i (call c) = λ none. called-alone (room_beside other) few day s (i none.1) c none.0
  where
    few : room_beside other ≤ log_places
    few = omega arith
own_alone other day empty i (call c) = tt
own_alone other day (taken s) i clear = tt
own_alone other day empty i clear = cleared (is_taken other)
  where
    cleared : (b : Bool) → SeatAlone day (clear_at b empty).seat
    cleared true = tt
    cleared false = tt

-- EITHER FIRM'S DAY IS A DAY OF THE MACHINE WITH ONE FIRM, as long as the firm is not told 15: the same calls, alone, get the same answers
pub as-alone : (firm : Bool) (xs : List Asked) (s : State) → seat_of firm (seats_after vacant xs) ≡ taken s → NeverRefused 15 (day_in firm xs).events
    → AsAlone (day_in firm xs) s
unfolding SeatAlone Anything
as-alone firm xs s is none =
    let st : SeatAlone (day_in firm xs) (taken s) =
    subst (SeatAlone (day_in firm xs)) is
    (all-along SeatAlone Anything (λ day. tt) left_alone (λ other day x i doing done. own_alone other day x i doing) firm xs (all-anything xs))
    in
    st none
