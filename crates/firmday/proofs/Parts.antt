-- What becomes of the numbers of each part: by a call of its firm, by clearing either firm, and past the state. Assumes nothing.
use Prim.Native.Nat.{ℕ, ◌*◌, ◌≤◌}
use native.Mathlib.Omega.{arith}
use mathlib.Core.Path.{◌≡◌, refl, sym, ap, ◌∙◌, subst⁻¹}
use mathlib.Core.Bool.{Bool, true, false, not, cond}
use mathlib.Core.List.{List, [], ◌∷◌}
use lib.ListN.{get_or, drop}
use lib.Dec.{eqb}
use borrow.Author.Tests.{eqb-true, le-ltb}
use Rattle.tables.specs.Inner.Tables.{zeros}
use Rattle.machine.specs.State.{State}
use Rattle.machine.specs.Calls.{Call}
use Rattle.machine.specs.Refusals.{first_of}
use Rattle.machine.specs.Step.{after}
use Rattle.machine.specs.Judge.{step_in, is_refusal}
use Rattle.demand.specs.Moves.{Moves}
use Rattle.demand.proofs.Moves.{moves}
use Rattle.state.specs.State.{size, decode}
use Rattle.state.specs.Sound.{Given}
use Rattle.std.specs.declared.result.Result.TheVariants.{Ok}
use Rattle.firms.specs.Seats.{Seat, empty, taken, Seats, vacant, turned, facing, seat_of, room_beside}
use Rattle.firms.specs.Doings.{call as calling, clear as clearing, after_doing}
use Rattle.firms.specs.Sound.{SoundSeat, SoundSeats}
use Rattle.firms.proofs.Seats.{own-seat}
use Rattle.firms.proofs.Sound.{GivenBy, doing-sound, vacant-sound}
use Rattle.seats.specs.Memory.{state_size, seat_part, encode_seat, encode_seats, stored_seats, decode_seats, is_sound_memory, firm_of, firm_refusal, firm_answer, firm_memory, clear_refusal, clear_firm_answer, clear_firm_memory, clear_all_memory, arm_refusal, given_to, arm_memory}
use Rattle.seats.proofs.Laws.{taken-apart, seat-long, seat-again}
use Rattle.seats.proofs.Exactly.{part-first, part-second, all_rest}
use Rattle.seats.proofs.Calls.{sound-is, Ready, ready-is, own, other, own-taken, firm-answer}
use Rattle.seats.proofs.Kept.{own-after}
use Rattle.seats.proofs.Clearing.{cleared-seats}
use Rattle.seats.proofs.ArmKept.{arm-past}
use Rattle.firmday.specs.Day.{Asking, arm, call, clear, clear_all, number_of, memory_after, memory_at}
use Rattle.firmday.specs.Promised.{Armed, lent_result}
use Rattle.firmday.proofs.Follows.{Lent, seats-sound, taken-empty, own-empty, own-sound}
use Rattle.firmday.proofs.AllDay.{step_follows}

known : (firm : Bool) → number_of firm ≤ 1
unfolding number_of
known true = omega arith
known false = omega arith

firm-back : (firm : Bool) → firm_of (number_of firm) ≡ firm
unfolding number_of
firm-back true = refl
firm-back false = refl

-- the state in a seat, another where it is empty
state_in : State → Seat → State
state_in fallback empty = fallback
state_in fallback (taken s) = s

same-state : {s r : State} → taken s ≡ taken r → s ≡ r
unfolding state_in
same-state {s} e = ap (state_in s) e

-- ---- a firm that is armed

module _ (xs : List ℕ) (l : Lent xs) (firm : Bool) (s : State) (is : Armed firm xs s) where
  abbrev n : ℕ
  n = number_of firm

  abbrev u : Seats
  u = decode_seats xs

  first-is : (facing (firm_of n) u).first ≡ taken s
  first-is = ap (λ (f : Bool). (facing f u).first) (firm-back firm) ∙ (own-seat firm u ∙ is)

  marked : get_or xs (n * size) 0 ≡ 0 → ⊥
  marked z = taken-empty (sym first-is ∙ own-empty xs l n (known firm) z)

  sound : is_sound_memory xs ≡ true
  sound = own-sound xs l n (known firm) marked

  pub ready-now : firm_refusal xs n ≡ 0
  ready-now = sym (sound-is xs n l.long (known firm) marked sound)

  ready : Ready xs n
  ready = ready-is xs n ready-now

  state-is : s ≡ decode (seat_part n xs)
  state-is = same-state (sym first-is ∙ own-taken xs n ready)

  pub moves-now : (c : Call) → Moves s c (lent_result firm xs c)
  unfolding step_in
  moves-now c =
      subst⁻¹ (λ (r : State). Moves r c (lent_result firm xs c)) state-is
      (subst⁻¹ (Moves (decode (own xs n ready)) c) (λ k. record { answer = firm-answer xs n ready c k; after = own-after xs n ready c k })
      (moves (room_beside (other xs n ready)) (decode (own xs n ready)) c))

  -- ---- the parts

  part-again : (g : Bool) → encode_seat (seat_of g u) ≡ seat_part (number_of g) xs
  unfolding number_of seat_of decode_seats
  part-again true = seat-again (seat_part 1 xs) (seat-long xs l.long 1 (omega arith)) (taken-apart xs sound).second
  part-again false = seat-again (seat_part 0 xs) (seat-long xs l.long 0 (omega arith)) (taken-apart xs sound).first

  pub zero-part : (g : Bool) → seat_of g u ≡ empty → seat_part (number_of g) xs ≡ zeros size
  unfolding encode_seat
  zero-part g e = sym (part-again g) ∙ ap encode_seat e

  pub clears-now : (g : Bool) → clear_firm_answer xs (number_of g) ≡ Ok tt
  unfolding clear_firm_answer clear_refusal first_of
  clears-now g = rw (le-ltb _ _ l.long, le-ltb _ _ (known g), sound)

  abbrev left : Bool → Seats
  left g = facing g (record { first = empty; second = (facing g u).second })

  clear-is : (g : Bool) → clear_firm_memory xs (number_of g) ≡ stored_seats (left g) xs
  unfolding clear_firm_memory clear_refusal first_of
  clear-is g =
      rw (le-ltb _ _ l.long, le-ltb _ _ (known g), sound)
      (ap (λ (f : Bool). stored_seats (after_doing f u clearing) xs) (firm-back g)
      ∙ ap (λ (v : Seats). stored_seats (facing g v) xs) (cleared-seats xs (number_of g) (facing g u)))

  both : SoundSeats Given u
  both = seats-sound xs l

  pub cleared-own : (g : Bool) → seat_part (number_of g) (clear_firm_memory xs (number_of g)) ≡ zeros size
  unfolding number_of facing turned stored_seats encode_seats encode_seat SoundSeat
  cleared-own true = ap (seat_part 1) (clear-is true) ∙ part-second (record { first = u.first; second = empty }) both.first tt (drop state_size xs)
  cleared-own false = ap (seat_part 0) (clear-is false) ∙ part-first (record { first = empty; second = u.second }) tt both.second (drop state_size xs)

  pub cleared-other : (g : Bool) → seat_part (number_of (not g)) (clear_firm_memory xs (number_of g)) ≡ seat_part (number_of (not g)) xs
  unfolding number_of facing turned seat_of stored_seats encode_seats SoundSeat
  cleared-other true =
      ap (seat_part 0) (clear-is true)
      ∙ (part-first (record { first = u.first; second = empty }) both.first tt (drop state_size xs) ∙ part-again false)
  cleared-other false =
      ap (seat_part 1) (clear-is false)
      ∙ (part-second (record { first = empty; second = u.second }) tt both.second (drop state_size xs) ∙ part-again true)

  pub cleared-past : (g : Bool) → drop state_size (clear_firm_memory xs (number_of g)) ≡ drop state_size xs
  unfolding facing turned stored_seats encode_seats SoundSeat
  cleared-past true = ap (drop state_size) (clear-is true) ∙ all_rest (record { first = u.first; second = empty }) both.first tt (drop state_size xs)
  cleared-past false = ap (drop state_size) (clear-is false) ∙ all_rest (record { first = empty; second = u.second }) tt both.second (drop state_size xs)

-- ---- past the state

module _ (xs : List ℕ) (l : Lent xs) where
  stored_past : (u : Seats) → SoundSeats Given u → drop state_size (stored_seats u xs) ≡ drop state_size xs
  unfolding stored_seats encode_seats
  stored_past u i = all_rest u i.first i.second (drop state_size xs)

  call-past : (n : ℕ) (c : Call) → drop state_size (firm_memory xs n c) ≡ drop state_size xs
  unfolding firm_memory GivenBy
  call-past n c = go (is_refusal (firm_answer xs n c))
    where
      go : (b : Bool) → drop state_size (cond b xs (stored_seats (after_doing (firm_of n) (decode_seats xs) (calling c)) xs)) ≡ drop state_size xs
      go true = refl
      go false = stored_past (after_doing (firm_of n) (decode_seats xs) (calling c)) (doing-sound Given (firm_of n) (decode_seats xs) (seats-sound xs l) (calling c) tt)

  clear-past : (n : ℕ) → drop state_size (clear_firm_memory xs n) ≡ drop state_size xs
  unfolding clear_firm_memory GivenBy
  clear-past n = go (eqb (clear_refusal xs n) 0)
    where
      go : (b : Bool) → drop state_size (cond b (stored_seats (after_doing (firm_of n) (decode_seats xs) clearing) xs) xs) ≡ drop state_size xs
      go true = stored_past (after_doing (firm_of n) (decode_seats xs) clearing) (doing-sound Given (firm_of n) (decode_seats xs) (seats-sound xs l) clearing tt)
      go false = refl

  arming-past : (n : ℕ) (text : List ℕ) → drop state_size (arm_memory xs n text) ≡ drop state_size xs
  unfolding arm_memory
  arming-past n text = go (eqb (arm_refusal xs n) 0) (eqb (given_to xs n text).refusal 0) refl refl
    where
      go : (a b : Bool) → eqb (arm_refusal xs n) 0 ≡ a → eqb (given_to xs n text).refusal 0 ≡ b → drop state_size (arm_memory xs n text) ≡ drop state_size xs
      go true true e f = arm-past xs n (eqb-true _ _ e) text (eqb-true _ _ f)
      go true false e f = rw (e, f)
      go false b e f = rw e

  step_past : (a : Asking) → drop state_size (memory_after xs a) ≡ drop state_size xs
  unfolding memory_after clear_all_memory
  step_past (arm firm text) = arming-past (number_of firm) text
  step_past (call firm c) = call-past (number_of firm) c
  step_past (clear firm) = clear-past (number_of firm)
  step_past clear_all = rw (le-ltb _ _ l.long) (stored_past vacant (vacant-sound Given))

-- THE NUMBERS PAST THE STATE STAY
pub past_all : (qs : List Asking) (xs : List ℕ) → Lent xs → drop state_size (memory_at xs qs) ≡ drop state_size xs
unfolding memory_at
past_all [] xs l = refl
past_all (a ∷ qs) xs l = past_all qs (memory_after xs a) (step_follows xs l a).0.0 ∙ step_past xs l a
