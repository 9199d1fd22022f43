-- A firm's call of which an entry may join the log: its own seat, and then the other's. Assumes nothing.
use Prim.Native.Nat.{ℕ, zero, suc, ◌+◌, ◌*◌, ◌-◌, ◌≤◌, max}
use native.Mathlib.Omega.{arith}
use mathlib.Core.Path.{◌≡◌, refl, sym, ap, ap₂, ◌∙◌, subst, subst⁻¹}
use mathlib.Core.Bool.{Bool, true, false, not, cond, false≢true}
use mathlib.Core.List.{List, [], ◌∷◌, ◌++◌, append_assoc}
use lib.ListN.{length, get_or, take, drop}
use lib.Dec.{eqb}
use borrow.Author.Tests.{eq-eqb, ne_eqb}
use Rattle.machine.specs.Answer.{Answer}
use Rattle.machine.specs.State.{State, rules_in}
use Rattle.machine.specs.Calls.{Call}
use Rattle.machine.specs.Deeds.{Deed, nothing}
use Rattle.machine.specs.Refusals.{refusal_of}
use Rattle.machine.specs.Step.{after}
use Rattle.machine.specs.Judge.{Judgement, judged, unless, judge, step_in, log_places, is_refusal}
use Rattle.machine.proofs.Keeps.{nothing-same}
use Rattle.machine.proofs.Sound.{step-sound}
use Rattle.state.specs.State.{size, encode, decode, stored}
use Rattle.state.specs.Sound.{Given, is_sound}
use Rattle.state.proofs.Exactly.{sound-decode}
use Rattle.firms.specs.Seats.{Seat, empty, taken, Seats, turned, facing, trimmed, trimmed_seat, left_by, room_beside}
use Rattle.firms.specs.Doings.{call, joins, after_doing}
use Rattle.firms.specs.Sound.{SoundSeat, SoundSeats}
use Rattle.firms.proofs.Places.{never-refusal}
use Rattle.firms.proofs.Sound.{sound-facing}
use Rattle.seats.specs.Memory.{state_size, seat_part, encode_seat, decode_seat, encode_seats, stored_seats, decode_seats, is_seat, firm_refusal, firm_of, firm_answer, firm_memory, Done, Called}
use Rattle.seats.proofs.Laws.{Tests, Seated, seated, seat-long, seats-parts, seat-again, seat-put}
use Rattle.seats.proofs.Exactly.{tested-sound, encoded-long, encoded-passes, encoded-again, part-first, part-second, all-again, all-seated, all_rest}
use Rattle.seats.proofs.Calls.{Ready, ready-is, own, own-sound, own-taken, other, judgement, firm-answer, seats-after, put-stored, span, lent_is}

-- ---- the other's seat

abbrev pub other_at : ℕ → ℕ
other_at firm = size - firm * size

pub other-part : (xs : List ℕ) (firm : ℕ) → firm ≤ 1 → take (other_at firm + size - other_at firm) (drop (other_at firm) xs) ≡ seat_part (1 - firm) xs
other-part xs zero le = refl
other-part xs (suc zero) le = refl
other-part xs (suc (suc n)) le = absurd (omega arith)

pub other-start : (firm : ℕ) → firm ≤ 1 → other_at firm ≡ (1 - firm) * size
other-start zero le = refl
other-start (suc zero) le = refl
other-start (suc (suc n)) le = absurd (omega arith)

pub other-decoded : (xs : List ℕ) (firm : ℕ) → firm ≤ 1 → decode_seat (seat_part (1 - firm) xs) ≡ (facing (firm_of firm) (decode_seats xs)).second
unfolding facing turned decode_seats
other-decoded xs zero le = refl
other-decoded xs (suc zero) le = refl
other-decoded xs (suc (suc n)) le = absurd (omega arith)

facing-swap : (firm : ℕ) → firm ≤ 1 → (x y : Seat) → facing (firm_of (1 - firm)) (record { first = x; second = y }) ≡ facing (firm_of firm) (record { first = y; second = x })
unfolding facing turned
facing-swap zero le x y = refl
facing-swap (suc zero) le x y = refl
facing-swap (suc (suc n)) le x y = absurd (omega arith)

-- the seat of the other in a state that is stored
stored_other : (firm : ℕ) → firm ≤ 1 → (x y : Seat) → SoundSeat Given x → SoundSeat Given y → (rest : List ℕ)
    → seat_part (1 - firm) (encode_seats (facing (firm_of firm) (record { first = x; second = y })) ++ rest) ≡ encode_seat y
unfolding facing turned encode_seats
stored_other zero le x y i j rest = part-second (record { first = x; second = y }) i j rest
stored_other (suc zero) le x y i j rest = part-first (record { first = y; second = x }) j i rest
stored_other (suc (suc n)) le x y i j rest = absurd (omega arith)

-- another seat for it
put_other : (firm : ℕ) → firm ≤ 1 → (x y z : Seat) → SoundSeat Given x → SoundSeat Given y → (xs : List ℕ)
    → let m = stored_seats (facing (firm_of firm) (record { first = x; second = y })) xs in
    take ((1 - firm) * size) m ++ (encode_seat z ++ drop size (drop ((1 - firm) * size) m)) ≡ stored_seats (facing (firm_of firm) (record { first = x; second = z })) xs
unfolding stored_seats encode_seats facing turned
put_other zero le x y z i j xs =
    let v : Seats = record { first = x; second = y } in
    let m = (encode_seat x ++ encode_seat y) ++ drop state_size xs in
    seat-put m (all-seated v i j (drop state_size xs)) 1 (omega arith) z
    ∙ ap₂ (λ (w : Seats) (l : List ℕ). (encode_seat w.first ++ encode_seat z) ++ l) (all-again v i j (drop state_size xs)) (all_rest v i j (drop state_size xs))
put_other (suc zero) le x y z i j xs =
    let v : Seats = record { first = y; second = x } in
    let m = (encode_seat y ++ encode_seat x) ++ drop state_size xs in
    seat-put m (all-seated v j i (drop state_size xs)) 0 (omega arith) z
    ∙ ap₂ (λ (w : Seats) (l : List ℕ). (encode_seat z ++ encode_seat w.second) ++ l) (all-again v j i (drop state_size xs)) (all_rest v j i (drop state_size xs))
put_other (suc (suc n)) le x y z i j xs = absurd (omega arith)

pub other-lent : (xs : List ℕ) (firm : ℕ) → Ready xs firm
    → (is_seat (take (other_at firm + size - other_at firm) (drop (other_at firm) xs)) ≡ true)
    × (length (take (other_at firm + size - other_at firm) (drop (other_at firm) xs)) ≡ size)
other-lent xs firm r =
    let is = other-part xs firm r.known in
    (ap is_seat is ∙ seat firm r.known, ap length is ∙ seat-long xs r.tests.long (1 - firm) (omega arith))
  where
    seat : (f : ℕ) → f ≤ 1 → is_seat (seat_part (1 - f) xs) ≡ true
    seat zero le = r.tests.second
    seat (suc zero) le = r.tests.first
    seat (suc (suc n)) le = absurd (omega arith)

pub room_most : (x : Seat) {n : ℕ} → n ≡ room_beside x → n ≤ 512
unfolding room_beside
room_most x e = omega (arith, e)

-- ---- what is stored is as it was where nothing was done

seats-same : (xs : List ℕ) → Tests xs → stored_seats (decode_seats xs) xs ≡ xs
unfolding stored_seats encode_seats decode_seats
seats-same xs t =
    let p = seat_part 0 xs in
    let q = seat_part 1 xs in
    ap₂ (λ (a b : List ℕ). (a ++ b) ++ drop state_size xs) (seat-again p (seat-long xs t.long 0 (omega arith)) t.first) (seat-again q (seat-long xs t.long 1 (omega arith)) t.second)
    ∙ (append_assoc p q (drop state_size xs) ∙ seats-parts xs t.long)

refusal-nothing : (room : ℕ) (s : State) (c : Call) → is_refusal (judge room s c).answer ≡ true → (judge room s c).deed ≡ nothing
unfolding judge unless
refusal-nothing room s c e = go (refusal_of room s c) e
  where
    go : (n : ℕ) → is_refusal (unless n (judged s c)).answer ≡ true → (unless n (judged s c)).deed ≡ nothing
    go zero e = absurd (false≢true (sym (never-refusal s c) ∙ e))
    go (suc n) e = refl

module _ (xs : List ℕ) (firm : ℕ) (r : Ready xs firm) (c : Call) where
  abbrev mine : Seat
  mine = taken (after (judgement xs firm r c).deed (decode (own xs firm r)))

  abbrev joined : Bool
  joined = joins (rules_in (decode (own xs firm r))) (judgement xs firm r c).deed

  seats-again : facing (firm_of firm) (record { first = taken (decode (own xs firm r)); second = other xs firm r }) ≡ decode_seats xs
  unfolding facing turned
  seats-again = ap (λ (x : Seat). facing (firm_of firm) (record { first = x; second = other xs firm r })) (sym (own-taken xs firm r)) ∙ twice (firm_of firm) (decode_seats xs)
    where
      twice : (f : Bool) (u : Seats) → facing f (record { first = (facing f u).first; second = (facing f u).second }) ≡ u
      twice true u = refl
      twice false u = refl

  -- in every case the state's meaning is stored
  pub firm-memory : firm_memory xs firm c ≡ stored_seats (after_doing (firm_of firm) (decode_seats xs) (call c)) xs
  unfolding firm_memory joins
  firm-memory = go (is_refusal (firm_answer xs firm c)) refl
    where
      go : (b : Bool) → is_refusal (firm_answer xs firm c) ≡ b
          → cond b xs (stored_seats (after_doing (firm_of firm) (decode_seats xs) (call c)) xs) ≡ stored_seats (after_doing (firm_of firm) (decode_seats xs) (call c)) xs
      go true e =
          let none : (judgement xs firm r c).deed ≡ nothing = refusal-nothing _ (decode (own xs firm r)) c (ap is_refusal (sym (firm-answer xs firm r c)) ∙ e) in
          let same : after_doing (firm_of firm) (decode_seats xs) (call c) ≡ decode_seats xs =
          seats-after xs firm r c
          ∙ (ap (λ (d : Deed). facing (firm_of firm) (record { first = taken (after d (decode (own xs firm r))); second = left_by (joins (rules_in (decode (own xs firm r))) d) (other xs firm r) })) none
          ∙ (ap (λ (s : State). facing (firm_of firm) (record { first = taken s; second = other xs firm r })) (nothing-same (decode (own xs firm r))) ∙ seats-again))
          in
          sym (seats-same xs r.tests) ∙ ap (λ (u : Seats). stored_seats u xs) (sym same)
      go false e = refl

  other-sound : SoundSeat Given (other xs firm r)
  other-sound = (sound-facing Given (firm_of firm) (decode_seats xs) (tested-sound xs r.tests).0).second

  mine-sound : SoundSeat Given mine
  unfolding SoundSeat step_in room_beside
  mine-sound = step-sound (room_beside (other xs firm r)) (omega arith) (decode (own xs firm r)) c (sound-decode (own xs firm r) (own-sound xs firm r))

  -- what the code had and did on the firm's own seat
  module _ {room : ℕ} (room-is : room ≡ room_beside (decode_seat (take (other_at firm + size - other_at firm) (drop (other_at firm) xs))))
      {ys : List ℕ} {called : Called} (did : Done room c (take (firm * size + size - firm * size) (drop (firm * size) xs)) ys called) where
    done-own : Done (room_beside (other xs firm r)) c (own xs firm r) ys called
    done-own =
        subst (λ (l : List ℕ). Done (room_beside (other xs firm r)) c l ys called) (lent_is xs firm)
        (subst (λ (n : ℕ). Done n c (take (firm * size + size - firm * size) (drop (firm * size) xs)) ys called)
        (room-is ∙ ap room_beside (ap decode_seat (other-part xs firm r.known) ∙ other-decoded xs firm r.known)) did)

    pub both-answer : called.answer ≡ firm_answer xs firm c
    both-answer = done-own.answer ∙ sym (firm-answer xs firm r c)

    abbrev between : List ℕ
    between = take (firm * size) xs ++ (ys ++ drop (firm * size + size - firm * size) (drop (firm * size) xs))

    between_is : between ≡ stored_seats (facing (firm_of firm) (record { first = mine; second = other xs firm r })) xs
    between_is =
        ap₂ (λ (l : List ℕ) (n : ℕ). take (firm * size) xs ++ (l ++ drop n (drop (firm * size) xs))) done-own.memory (span (firm * size))
        ∙ put-stored xs firm r (after (judgement xs firm r c).deed (decode (own xs firm r)))

    -- no entry joined
    pub both-quiet : called.joined ≡ false → between ≡ firm_memory xs firm c
    both-quiet e =
        between_is
        ∙ (ap (λ (b : Bool). stored_seats (facing (firm_of firm) (record { first = mine; second = left_by b (other xs firm r) })) xs) (sym e ∙ done-own.joined)
        ∙ (ap (λ (u : Seats). stored_seats u xs) (sym (seats-after xs firm r c)) ∙ sym firm-memory))

    -- an entry joined, and the other's old ones leave
    beside-is : take (other_at firm + size - other_at firm) (drop (other_at firm) between) ≡ encode_seat (other xs firm r)
    unfolding stored_seats
    beside-is =
        other-part between firm r.known
        ∙ (ap (seat_part (1 - firm)) between_is ∙ stored_other firm r.known mine (other xs firm r) mine-sound other-sound (drop state_size xs))

    pub both-asked : (is_seat (take (other_at firm + size - other_at firm) (drop (other_at firm) between)) ≡ true)
        × (length (take (other_at firm + size - other_at firm) (drop (other_at firm) between)) ≡ size)
    both-asked = (ap is_seat beside-is ∙ encoded-passes (other xs firm r) other-sound, ap length beside-is ∙ encoded-long (other xs firm r) other-sound)

    pub both_long : state_size ≤ length between
    unfolding stored_seats encode_seats facing turned
    both_long =
        subst⁻¹ (λ (l : List ℕ). state_size ≤ length l) between_is (go (firm_of firm))
      where
        go : (f : Bool) → state_size ≤ length (stored_seats (facing f (record { first = mine; second = other xs firm r })) xs)
        go true = (all-seated (record { first = other xs firm r; second = mine }) other-sound mine-sound (drop state_size xs)).long
        go false = (all-seated (record { first = mine; second = other xs firm r }) mine-sound other-sound (drop state_size xs)).long

    pub both-joined : called.joined ≡ true → {zs : List ℕ}
        → zs ≡ encode_seat (trimmed_seat (decode_seat (take (other_at firm + size - other_at firm) (drop (other_at firm) between))))
        → take (other_at firm) between ++ (zs ++ drop (other_at firm + size - other_at firm) (drop (other_at firm) between)) ≡ firm_memory xs firm c
    both-joined e {zs} z =
        let at = other-start firm r.known in
        let left : zs ≡ encode_seat (trimmed_seat (other xs firm r)) =
        z ∙ ap (λ (x : Seat). encode_seat (trimmed_seat x)) (ap decode_seat beside-is ∙ encoded-again (other xs firm r) other-sound)
        in
        (λ i. take (at i) (between_is i) ++ (left i ++ drop (spans (other_at firm) i) (drop (at i) (between_is i))))
        ∙ (put_other firm r.known mine (other xs firm r) (trimmed_seat (other xs firm r)) mine-sound other-sound xs
        ∙ (ap (λ (b : Bool). stored_seats (facing (firm_of firm) (record { first = mine; second = left_by b (other xs firm r) })) xs) (sym e ∙ done-own.joined)
        ∙ (ap (λ (u : Seats). stored_seats u xs) (sym (seats-after xs firm r c)) ∙ sym firm-memory)))
      where
        spans : (a : ℕ) → a + size - a ≡ size
        spans a = span a
