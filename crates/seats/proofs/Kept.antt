-- Every call of a firm keeps a sound state sound, and the memory follows the state's meaning. Assumes nothing.
use Prim.Native.Nat.{ℕ, ◌*◌}
use mathlib.Core.Path.{◌≡◌, refl, sym, ap, ◌∙◌, subst⁻¹}
use mathlib.Core.Bool.{Bool, true, false, ◌||◌, or-true, false≢true}
use mathlib.Core.List.{List}
use lib.ListN.{get_or, drop}
use borrow.Author.Tests.{eq-eqb}
use Rattle.machine.specs.State.{State}
use Rattle.machine.specs.Calls.{Call}
use Rattle.machine.specs.Step.{after}
use Rattle.state.specs.State.{size, decode}
use Rattle.state.specs.Sound.{Given}
use Rattle.firms.specs.Seats.{Seat, empty, taken, Seats, turned, facing}
use Rattle.firms.specs.Doings.{call, is_taken, after_doing}
use Rattle.firms.specs.Sound.{SoundSeats}
use Rattle.firms.proofs.Sound.{GivenBy, doing-sound}
use Rattle.seats.specs.Memory.{state_size, seat_part, encode_seats, stored_seats, decode_seat, decode_seats, is_sound_memory, firm_refusal, firm_of, firm_memory}
use Rattle.seats.proofs.Exactly.{tested-sound, all-again, all_rest, stored-sound}
use Rattle.seats.proofs.Laws.{taken-apart, seat-at}
use Rattle.seats.proofs.Armable.{part-mark}
use Rattle.seats.proofs.Calls.{Ready, ready-is, sound-is, own, own-taken, judgement, seats-after}
use Rattle.seats.proofs.Both.{firm-memory}

pub someone : (f : Bool) (x y : Seat) → is_taken x ≡ true → (is_taken (facing f (record { first = x; second = y })).first || is_taken (facing f (record { first = x; second = y })).second) ≡ true
unfolding facing turned
someone true x y e = ap (λ (b : Bool). is_taken y || b) e ∙ or-true (is_taken y)
someone false x y e = ap (λ (b : Bool). b || is_taken y) e

-- a seat seen from its own side twice
first_back : (f : Bool) (x y : Seat) → (facing f (facing f (record { first = x; second = y }))).first ≡ x
unfolding facing turned
first_back true x y = refl
first_back false x y = refl

taken-empty : {s : State} → taken s ≡ empty → ⊥
unfolding is_taken
taken-empty e = false≢true (sym (ap is_taken e))

-- the state in a seat, another where it is empty
state_in : State → Seat → State
state_in fallback empty = fallback
state_in fallback (taken s) = s

module _ (xs : List ℕ) (firm : ℕ) (r : Ready xs firm) (c : Call) where
  abbrev left : Seats
  left = after_doing (firm_of firm) (decode_seats xs) (call c)

  left-sound : SoundSeats Given left
  unfolding GivenBy
  left-sound = doing-sound Given (firm_of firm) (decode_seats xs) (tested-sound xs r.tests).0 (call c) tt

  left-some : (is_taken left.first || is_taken left.second) ≡ true
  unfolding is_taken
  left-some =
      subst⁻¹ (λ (u : Seats). (is_taken u.first || is_taken u.second) ≡ true) (seats-after xs firm r c)
      (someone (firm_of firm) (taken (after (judgement xs firm r c).deed (decode (own xs firm r)))) _ refl)

  -- EVERY CALL KEEPS A SOUND STATE SOUND
  pub kept-sound : is_sound_memory (firm_memory xs firm c) ≡ true
  unfolding stored_seats encode_seats
  kept-sound = ap is_sound_memory (firm-memory xs firm r c) ∙ stored-sound left left-sound.first left-sound.second (drop state_size xs) left-sound left-some

  -- THE MEMORY FOLLOWS THE STATE'S MEANING, call by call; what is past it stays
  pub follows : decode_seats (firm_memory xs firm c) ≡ left
  unfolding stored_seats encode_seats
  follows = ap decode_seats (firm-memory xs firm r c) ∙ all-again left left-sound.first left-sound.second (drop state_size xs)

  pub past-stays : drop state_size (firm_memory xs firm c) ≡ drop state_size xs
  unfolding stored_seats encode_seats
  past-stays = ap (drop state_size) (firm-memory xs firm r c) ∙ all_rest left left-sound.first left-sound.second (drop state_size xs)

  -- the firm's seat is taken still, by what its call leaves of its part
  left-taken : (facing (firm_of firm) (decode_seats (firm_memory xs firm c))).first ≡ taken (after (judgement xs firm r c).deed (decode (own xs firm r)))
  left-taken = ap (λ (u : Seats). (facing (firm_of firm) u).first) (follows ∙ seats-after xs firm r c) ∙ first_back (firm_of firm) _ _

  left-marked : get_or (firm_memory xs firm c) (firm * size) 0 ≡ 0 → ⊥
  unfolding decode_seat
  left-marked e =
      taken-empty
      (sym left-taken
      ∙ (seat-at (firm_memory xs firm c) firm r.known
      ∙ rw (eq-eqb (get_or (seat_part firm (firm_memory xs firm c)) 0 0) 0 (part-mark (firm_memory xs firm c) firm ∙ e))))

  -- NO LATER CALL OF THE FIRM IS REFUSED by the memory or the firm's number
  pub kept-ready : firm_refusal (firm_memory xs firm c) firm ≡ 0
  kept-ready = sym (sound-is (firm_memory xs firm c) firm (taken-apart (firm_memory xs firm c) kept-sound).long r.known left-marked kept-sound)

  -- what the call leaves of the firm's part
  pub own-after : decode (seat_part firm (firm_memory xs firm c)) ≡ after (judgement xs firm r c).deed (decode (own xs firm r))
  unfolding state_in
  own-after =
      ap (state_in (decode (own xs firm r)))
      (sym (own-taken (firm_memory xs firm c) firm (ready-is (firm_memory xs firm c) firm kept-ready)) ∙ left-taken)
