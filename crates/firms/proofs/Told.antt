-- By which numbers a firm's calls are refused: none below 12, and 15 through the other's use above 192 alone. Assumes nothing.
use Prim.Native.Nat.{ℕ, zero, suc, ◌+◌, ◌-◌, ◌≤◌, ◌<◌, max}
use mathlib.Core.Path.{◌≡◌, refl, sym, ap, ◌∙◌, subst}
use mathlib.Core.Logic.{◌⊎◌, inl, inr}
use mathlib.Core.Bool.{Bool, true, false, cond, ◌&&◌, false≢true}
use mathlib.Core.List.{List, [], ◌∷◌}
use lib.Dec.{T, leb, eqb, lit≤}
use borrow.Author.Tests.{eqb-true, eqb-false, leb-true, leb-false}
use native.Mathlib.Omega.{arith}
use Rattle.rules.specs.Allowance.{All}
use Rattle.machine.specs.Answer.{Refused}
use Rattle.machine.specs.State.{Profile, State}
use Rattle.machine.specs.Calls.{Call, order, lockout, offer, remaining, status, send, report, close}
use Rattle.machine.specs.Refusals.{first_of, refusal_of}
use Rattle.machine.specs.Judge.{Judgement, judged, unless, judge, is_refusal}
use Rattle.firms.specs.Seats.{Seat, empty, taken, vacant, seat_of, use_of, own_places, room_beside, trimmed_seat, left_by}
use Rattle.firms.specs.Doings.{Doing, arm, call, clear, is_taken, name_of, beside_of, arm_refusal, armed_by, stays, call_at, called_by, clear_at, at_seat}
use Rattle.firms.specs.Runs.{Asked, seats_after, Day, day_by, NeverRefused}
use Rattle.firms.proofs.Apart.{refusal-rooms}
use Rattle.firms.proofs.Places.{told-number, never-refusal}
use Rattle.firms.proofs.Days.{day_in, Anything, all-anything, all-along}
use Rattle.firms.proofs.Alone.{refusal-more}

-- ---- numbers below 12 speak of memory and of arming

-- the first test that passes has a number at or above a bound, where all have
first-least : (least : ℕ) (tests : List (Bool × ℕ)) → All (λ t. T (leb least t.1)) tests → (n : ℕ) → first_of tests ≡ suc n → least ≤ suc n
unfolding first_of
first-least least [] all n e = absurd (omega arith)
first-least least (t ∷ tests) all n e = go t.0 (first-least least tests all.1 n) e
  where
    go : (b : Bool) → (first_of tests ≡ suc n → least ≤ suc n) → cond b t.1 (first_of tests) ≡ suc n → least ≤ suc n
    go true rest e = let bound : least ≤ t.1 = lit≤ all.0 in omega arith
    go false rest e = rest e

refusal-least : (room : ℕ) (s : State) (c : Call) (n : ℕ) → refusal_of room s c ≡ suc n → 12 ≤ suc n
unfolding refusal_of
refusal-least room s (order time root reset) n e = first-least 12 _ (tt, (tt, tt)) n e
refusal-least room s (lockout time level root) n e = first-least 12 _ (tt, (tt, tt)) n e
refusal-least room s (offer o) n e = first-least 12 _ (tt, (tt, (tt, (tt, tt)))) n e
refusal-least room s (remaining time rule unit) n e = first-least 12 _ (tt, (tt, tt)) n e
refusal-least room s status n e = absurd (omega arith)
refusal-least room s (send o identity reports) n e = first-least 12 _ (tt, (tt, (tt, (tt, (tt, (tt, tt)))))) n e
refusal-least room s (report time identity k) n e = first-least 12 _ (tt, (tt, (tt, (tt, (tt, tt))))) n e
refusal-least room s (close time identity) n e = first-least 12 _ (tt, (tt, (tt, tt))) n e

module _ (k : ℕ) (low : k < 12) where
  judge-never : (room : ℕ) (s : State) (c : Call) → (judge room s c).answer ≡ Refused k → ⊥
  unfolding judge unless is_refusal
  judge-never room s c = go (refusal_of room s c) refl
    where
      go : (n : ℕ) → refusal_of room s c ≡ n → (unless n (judged s c)).answer ≡ Refused k → ⊥
      go zero e h = false≢true (sym (never-refusal s c) ∙ ap is_refusal h)
      go (suc n) e h = let same : suc n ≡ k = cc in omega (arith, refusal-least room s c n e)

  unfoldable SeatNever : Day → Seat → Type 0
  SeatNever day empty = Unit {0}
  SeatNever day (taken s) = NeverRefused k day.events

  left-never : (day : Day) (joined : Bool) (x : Seat) → SeatNever day x → SeatNever day (left_by joined x)
  unfolding SeatNever trimmed_seat
  left-never day true empty i = tt
  left-never day true (taken s) i = i
  left-never day false x i = i

  own-never : (other : Seat) (day : Day) (x : Seat) → SeatNever day x → (doing : Doing)
      → SeatNever (day_by doing (at_seat (beside_of other) x doing).reply day) (at_seat (beside_of other) x doing).seat
  unfolding at_seat beside_of arm_refusal call_at called_by clear_at is_taken first_of armed_by stays SeatNever day_by NeverRefused
  own-never other day (taken s) i (arm p) = i
  own-never other day empty i (arm p) = armed-by (is_taken other && eqb p.firm (name_of other))
    where
      armed-by : (b : Bool) → SeatNever (day_by (arm p) (armed_by (cond b 7 0) empty p).reply day) (armed_by (cond b 7 0) empty p).seat
      armed-by true = tt
      armed-by false = tt
  own-never other day (taken s) i (call c) = (judge-never (room_beside other) s c, i)
  own-never other day empty i (call c) = tt
  own-never other day (taken s) i clear = tt
  own-never other day empty i clear = cleared (is_taken other)
    where
      cleared : (b : Bool) → SeatNever day (clear_at b empty).seat
      cleared true = tt
      cleared false = tt

  -- NO CALL OF A FIRM THAT IS ARMED is refused by such a number since it was armed
  pub never-low : (firm : Bool) (xs : List Asked) (s : State) → seat_of firm (seats_after vacant xs) ≡ taken s → NeverRefused k (day_in firm xs).events
  unfolding SeatNever Anything
  never-low firm xs s is =
      let st : SeatNever (day_in firm xs) (taken s) =
      subst (SeatNever (day_in firm xs)) is
      (all-along SeatNever Anything (λ day. tt) left-never (λ other day x i doing done. own-never other day x i doing) firm xs (all-anything xs))
      in
      st

-- ---- 15 by the room that the other leaves

-- 15 with one room and not with another, which is larger
pub record Crowded (room more : ℕ) (s : State) (c : Call) : Type 0 where
  pub full : (judge room s c).answer ≡ Refused 15
  pub free : (judge more s c).answer ≡ Refused 15 → ⊥
  pub less : room < more

module _ (s : State) (c : Call) where
  crowded : (room more : ℕ) → refusal_of room s c ≡ 15 → (refusal_of more s c ≡ 15 → ⊥) → Crowded room more s c
  unfolding judge unless
  crowded room more f g = record {
    full = ap (λ (n : ℕ). (unless n (judged s c)).answer) f;
    free = λ e. g (told-number (refusal_of more s c) (judged s c) (never-refusal s c) e);
    less = go (leb more room) refl;
  }
    where
      go : (b : Bool) → leb more room ≡ b → room < more
      go true e = absurd (g (refusal-more more room (leb-true more room e) s c f))
      go false e = leb-false more room e

  -- a call is judged the same with two rooms, unless one of them is the smaller and refuses it with 15
  pub by-room : (room more : ℕ) → (judge room s c ≡ judge more s c) ⊎ (Crowded room more s c ⊎ Crowded more room s c)
  unfolding judge
  by-room room more = go (eqb (refusal_of room s c) 15) (eqb (refusal_of more s c) 15) refl refl
    where
      same : refusal_of room s c ≡ refusal_of more s c → judge room s c ≡ judge more s c
      same e = ap (λ (n : ℕ). unless n (judged s c)) e

      go : (a b : Bool) → eqb (refusal_of room s c) 15 ≡ a → eqb (refusal_of more s c) 15 ≡ b
          → (judge room s c ≡ judge more s c) ⊎ (Crowded room more s c ⊎ Crowded more room s c)
      go true true e f = inl (same (eqb-true _ _ e ∙ sym (eqb-true _ _ f)))
      go true false e f = inr (inl (crowded room more (eqb-true _ _ e) (eqb-false _ _ f)))
      go false true e f = inr (inr (crowded more room (eqb-true _ _ f) (eqb-false _ _ e)))
      go false false e f = inl (same (refusal-rooms room more s c (eqb-false _ _ e) (eqb-false _ _ f)))

-- the smaller room is beside a firm that uses more than 192 places, and more than the other one does
pub less-room : (x y : Seat) → room_beside x < room_beside y → (own_places < use_of x) × (use_of y < use_of x)
unfolding room_beside
less-room x y less = (omega (arith, less), omega (arith, less))
