-- What holds of a firm's day and of its seat all along, whatever is done for the other firm meanwhile. Assumes nothing.
use mathlib.Core.Path.{◌≡◌, refl, ap, ◌∙◌, subst⁻¹}
use mathlib.Core.Bool.{Bool, true, false, cond}
use mathlib.Core.List.{List, [], ◌∷◌}
use Rattle.rules.specs.Allowance.{All}
use Rattle.firms.specs.Seats.{Seat, empty, Seats, vacant, facing, seat_of, left_by}
use Rattle.firms.specs.Doings.{Doing, Reply, beside_of, at_seat, outcome_of, reply_to, after_doing}
use Rattle.firms.specs.Runs.{Asked, of, clear_all, after_asked, seats_after, is_same, Day, day_by, day_after, day_of, no_day}
use Rattle.firms.proofs.Seats.{same-firm, own-reply, own-left, other-left}

abbrev pub day_in : Bool → List Asked → Day
day_in firm xs = day_of firm vacant xs no_day

-- a sentence of what is done for a firm; nothing is asked of clearing the state
unfoldable pub OfDoing : (Doing → Type 0) → Asked → Type 0
OfDoing Done (of firm doing) = Done doing
OfDoing Done clear_all = Unit {0}

-- a sentence of a firm's day and its seat, which an empty seat meets, old entries do not change, and each thing done for the firm keeps
module _
    (Holds : Day → Seat → Type 0)
    (Done : Doing → Type 0)
    (unarmed : (day : Day) → Holds day empty)
    (left : (day : Day) (joined : Bool) (x : Seat) → Holds day x → Holds day (left_by joined x))
    (own : (other : Seat) (day : Day) (x : Seat) → Holds day x → (doing : Doing) → Done doing
    → Holds (day_by doing (at_seat (beside_of other) x doing).reply day) (at_seat (beside_of other) x doing).seat)
    (firm : Bool) where
  doing-holds : (u : Seats) (day : Day) → Holds day (seat_of firm u) → (other : Bool) (doing : Doing) → Done doing
      → (b : Bool) → is_same firm other ≡ b → Holds (cond b (day_by doing (reply_to other u doing) day) day) (seat_of firm (after_doing other u doing))
  doing-holds u day i other doing done true e =
      let here = own (facing firm u).second day (seat_of firm u) i doing done in
      let mine : Holds (day_by doing (reply_to firm u doing) day) (seat_of firm (after_doing firm u doing)) =
      subst⁻¹ (Holds (day_by doing (reply_to firm u doing) day)) (own-left firm u doing)
      (subst⁻¹ (λ (r : Reply). Holds (day_by doing r day) (at_seat (beside_of (facing firm u).second) (seat_of firm u) doing).seat) (own-reply firm u doing) here)
      in
      subst⁻¹ (λ (g : Bool). Holds (day_by doing (reply_to g u doing) day) (seat_of firm (after_doing g u doing))) (same-firm firm other e) mine
  doing-holds u day i other doing done false e =
      subst⁻¹ (Holds day) (other-left firm other e u doing) (left day (outcome_of (facing other u) doing).joined (seat_of firm u) i)

  none-holds : (firm : Bool) (day : Day) → Holds day (seat_of firm vacant)
  unfolding vacant seat_of
  none-holds true day = unarmed day
  none-holds false day = unarmed day

  asked-holds : (u : Seats) (day : Day) → Holds day (seat_of firm u) → (x : Asked) → OfDoing Done x
      → Holds (day_after firm u x day) (seat_of firm (after_asked u x))
  unfolding after_asked day_after OfDoing
  asked-holds u day i (of other doing) done = doing-holds u day i other doing done (is_same firm other) refl
  asked-holds u day i clear_all done = none-holds firm day

  run_holds : (xs : List Asked) (u : Seats) (day : Day) → Holds day (seat_of firm u) → All (OfDoing Done) xs
      → Holds (day_of firm u xs day) (seat_of firm (seats_after u xs))
  unfolding seats_after day_of
  run_holds [] u day i done = i
  run_holds (x ∷ xs) u day i done = run_holds xs (after_asked u x) (day_after firm u x day) (asked-holds u day i x done.0) done.1

  -- EITHER FIRM'S DAY FROM A STATE ON WHICH NO FIRM IS ARMED
  pub all-along : (xs : List Asked) → All (OfDoing Done) xs → Holds (day_in firm xs) (seat_of firm (seats_after vacant xs))
  all-along xs done = run_holds xs vacant no_day (none-holds firm no_day) done

-- of things of which nothing is asked
unfoldable pub Anything : Doing → Type 0
Anything doing = Unit {0}

pub all-anything : (xs : List Asked) → All (OfDoing Anything) xs
unfolding OfDoing Anything
all-anything [] = tt
all-anything (of firm doing ∷ xs) = (tt, all-anything xs)
all-anything (clear_all ∷ xs) = (tt, all-anything xs)
