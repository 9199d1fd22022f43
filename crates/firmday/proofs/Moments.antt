-- What a firm is answered on lent memory, and what becomes of its seat, by its own seat and the one beside it. Assumes nothing.
use Prim.Native.Nat.{ℕ}
use native.Mathlib.Omega.{arith}
use mathlib.Core.Path.{◌≡◌, sym, ◌∙◌, subst, subst⁻¹}
use mathlib.Core.Bool.{Bool, true, false, cond}
use mathlib.Core.List.{List, [], ◌∷◌}
use lib.Dec.{eqb}
use borrow.Author.Tests.{eq-eqb}
use Rattle.machine.specs.State.{Profile, State}
use Rattle.machine.specs.Calls.{Call}
use Rattle.profile.specs.Profile.{reading_of, outcome_of, outcome_beside}
use Rattle.profile.specs.Reading.{Refused as NotRead}
use Rattle.firms.specs.Seats.{Seat, empty, taken, Seats, vacant, turned, facing, seat_of, room_beside}
use Rattle.firms.specs.Doings.{Doing, arm as arming, call as calling, clear as clearing, answered, is_taken, name_of, Beside, beside_of, call_at, clear_at, at_seat, outcome_of as done_for, reply_to, after_doing}
use Rattle.firms.specs.Runs.{of, after_asked, seats_after, is_same}
use Rattle.firms.proofs.Seats.{same-firm, own-reply, own-left, other-left, AlikeSeat, trim-alike, at_same}
use Rattle.seats.specs.Memory.{decode_seats, firm_answer, arm_answer, arm_memory, clear_firm_answer}
use Rattle.firmday.specs.Day.{Asking, arm, call, clear, clear_all, number_of, asked, read_reply, clear_reply}
use Rattle.firmday.specs.Isolated.{concerns, beside_in}
use Rattle.firmday.proofs.Follows.{Lent, call-goes, clear_told}
use Rattle.firmday.proofs.Arming.{arm_goes, arm-told, arm-again}

-- what a firm is told is told by its own seat and the one beside it
module _ (xs : List ℕ) (l : Lent xs) where
  abbrev u : Seats
  u = decode_seats xs

  pub by_call : (firm : Bool) (c : Call) → answered (firm_answer xs (number_of firm) c) ≡ reply_to firm u (calling c)
  unfolding number_of
  by_call true c = (call-goes xs l 1 (omega arith) c).1
  by_call false c = (call-goes xs l 0 (omega arith) c).1

  by-clear : (firm : Bool) → clear_reply (clear_firm_answer xs (number_of firm)) ≡ reply_to firm u clearing
  unfolding number_of
  by-clear true = clear_told xs l 1 (omega arith)
  by-clear false = clear_told xs l 0 (omega arith)

  by_arm : (firm : Bool) (text : List ℕ) → (outcome_of text).refusal ≡ 0 → read_reply (arm_answer xs (number_of firm) text) ≡ reply_to firm u (arming (outcome_of text).profile)
  unfolding number_of
  by_arm true text ok = (arm_goes xs l 1 (omega arith) text).2 (eq-eqb _ _ ok)
  by_arm false text ok = (arm_goes xs l 0 (omega arith) text).2 (eq-eqb _ _ ok)

  pub arm-empty : (firm : Bool) → seat_of firm u ≡ empty → (text : List ℕ) → arm_answer xs (number_of firm) text ≡ reading_of (outcome_beside (name_of (beside_in firm xs)) text)
  unfolding number_of seat_of facing turned
  arm-empty true is text = arm-told xs l 1 (omega arith) is text
  arm-empty false is text = arm-told xs l 0 (omega arith) is text

  pub arm-taken : (firm : Bool) (s : State) → seat_of firm u ≡ taken s → (text : List ℕ) → (arm_answer xs (number_of firm) text ≡ NotRead 3 0) × (arm_memory xs (number_of firm) text ≡ xs)
  unfolding number_of seat_of facing turned
  arm-taken true s is text = arm-again xs l 1 (omega arith) s is text
  arm-taken false s is text = arm-again xs l 0 (omega arith) s is text

  module _ (firm : Bool) (x : Seat) (a : AlikeSeat (seat_of firm u) x) where
    alike-reply : (doing : Doing) → reply_to firm u doing ≡ (at_seat (beside_of (beside_in firm xs)) x doing).reply
    alike-reply doing = own-reply firm u doing ∙ sym (at_same (beside_of (beside_in firm xs)) (seat_of firm u) x a doing).reply

    pub call-alike : (c : Call) → answered (firm_answer xs (number_of firm) c) ≡ (call_at (room_beside (beside_in firm xs)) x c).reply
    unfolding at_seat beside_of
    call-alike c = by_call firm c ∙ alike-reply (calling c)

    pub clear-alike : clear_reply (clear_firm_answer xs (number_of firm)) ≡ (clear_at (is_taken (beside_in firm xs)) x).reply
    unfolding at_seat beside_of
    clear-alike = by-clear firm ∙ alike-reply clearing

    pub arm-alike : (text : List ℕ) → (outcome_of text).refusal ≡ 0
        → read_reply (arm_answer xs (number_of firm) text) ≡ (at_seat (beside_of (beside_in firm xs)) x (arming (outcome_of text).profile)).reply
    arm-alike text ok = by_arm firm text ok ∙ alike-reply (arming (outcome_of text).profile)

-- ---- a firm's seat after what is asked

-- after what concerns it, beside another
unfoldable pub next_by : Beside → Seat → Asking → Seat
next_by beside x (arm firm text) = cond (eqb (outcome_of text).refusal 0) (at_seat beside x (arming (outcome_of text).profile)).seat x
next_by beside x (call firm c) = (at_seat beside x (calling c)).seat
next_by beside x (clear firm) = (at_seat beside x clearing).seat
next_by beside x clear_all = empty

module _ (firm : Bool) (u : Seats) (x : Seat) (i : AlikeSeat (seat_of firm u) x) where
  abbrev beside : Beside
  beside = beside_of (facing firm u).second

  -- what is done for the firm
  own-alike : (other : Bool) → is_same firm other ≡ true → (doing : Doing) → AlikeSeat (seat_of firm (after_doing other u doing)) (at_seat beside x doing).seat
  own-alike other e doing =
      subst⁻¹ (λ (g : Bool). AlikeSeat (seat_of firm (after_doing g u doing)) (at_seat beside x doing).seat) (same-firm firm other e)
      (subst⁻¹ (λ (y : Seat). AlikeSeat y (at_seat beside x doing).seat) (own-left firm u doing) (at_same beside (seat_of firm u) x i doing).seat)

  -- and for the other
  other-alike : (other : Bool) → is_same firm other ≡ false → (doing : Doing) → AlikeSeat (seat_of firm (after_doing other u doing)) x
  other-alike other e doing =
      subst⁻¹ (λ (y : Seat). AlikeSeat y x) (other-left firm other e u doing) (trim-alike (done_for (facing other u) doing).joined (seat_of firm u) x i)

  pub own-next : (a : Asking) → concerns firm a ≡ true → AlikeSeat (seat_of firm (seats_after u (asked a))) (next_by beside x a)
  unfolding concerns asked seats_after after_asked next_by vacant seat_of AlikeSeat
  own-next (arm other text) e = go (eqb (outcome_of text).refusal 0)
    where
      p : Profile
      p = (outcome_of text).profile

      go : (b : Bool) → AlikeSeat (seat_of firm (seats_after u (cond b (of other (arming p) ∷ []) []))) (cond b (at_seat beside x (arming p)).seat x)
      go true = own-alike other e (arming p)
      go false = i
  own-next (call other c) e = own-alike other e (calling c)
  own-next (clear other) e = own-alike other e clearing
  own-next clear_all e = none firm
    where
      none : (firm : Bool) → AlikeSeat (seat_of firm vacant) empty
      none true = tt
      none false = tt

  pub other-next : (a : Asking) → concerns firm a ≡ false → AlikeSeat (seat_of firm (seats_after u (asked a))) x
  unfolding concerns asked seats_after after_asked
  other-next (arm other text) e = go (eqb (outcome_of text).refusal 0)
    where
      p : Profile
      p = (outcome_of text).profile

      go : (b : Bool) → AlikeSeat (seat_of firm (seats_after u (cond b (of other (arming p) ∷ []) []))) x
      go true = other-alike other e (arming p)
      go false = i
  other-next (call other c) e = other-alike other e (calling c)
  other-next (clear other) e = other-alike other e clearing
  other-next clear_all e = absurd (true-not e)
    where
      true-not : true ≡ false → ⊥
      true-not e = subst (λ (b : Bool). cond b Unit ⊥) e tt
