-- The numbers of a sound state are just those of its two seats. Assumes nothing.
use Prim.Native.Nat.{ℕ, zero, suc, ◌+◌, ◌*◌, ◌-◌, ◌≤◌}
use native.Mathlib.Omega.{arith}
use mathlib.Core.Path.{◌≡◌, refl, sym, ap, ap₂, ◌∙◌, subst}
use mathlib.Core.Bool.{Bool, true, false, not, cond, ◌&&◌, false≢true}
use mathlib.Core.List.{List, [], ◌∷◌, ◌++◌, append_assoc, append-nil}
use lib.ListN.{length, get_or, take, drop, length-append, length-drop, take-append-drop}
use lib.Seq.{drop-drop, get_or-drop, length-take-le, take_all, drop_at}
use lib.Dec.{eqb, leb}
use borrow.Author.Tests.{eq-eqb, eqb-true, leb-true, ne_eqb, eqb-false}
use Rattle.laws.proofs.Tests.{and_l, and_r, and_i}
use Rattle.tables.specs.Inner.Tables.{zeros, all_zero}
use Rattle.shapes.proofs.Tables.{length-zeros, all-zeros, zeros-all}
use Rattle.machine.specs.State.{State}
use Rattle.state.specs.State.{size, encode, decode, stored}
use Rattle.state.specs.Sound.{SoundState, is_sound}
use Rattle.state.proofs.Stored.{encode-long}
use Rattle.state.proofs.Exactly.{restored, sound-state-fits}
use Rattle.firms.specs.Seats.{Seat, empty, taken, Seats, turned, facing}
use Rattle.seats.specs.Memory.{state_size, seat_part, encode_seat, decode_seat, encode_seats, stored_seats, decode_seats, is_seat, fit_together, seats_fit, is_sound_memory, firm_of}

-- what the test of a state says
pub record Tests (xs : List ℕ) : Type 0 where
  pub long : state_size ≤ length xs
  pub first : is_seat (seat_part 0 xs) ≡ true
  pub second : is_seat (seat_part 1 xs) ≡ true
  pub fit : seats_fit (decode_seats xs) ≡ true

pub taken-apart : (xs : List ℕ) → is_sound_memory xs ≡ true → Tests xs
unfolding is_sound_memory
taken-apart xs h =
    let a = leb state_size (length xs) in
    let b = is_seat (seat_part 0 xs) in
    let c = is_seat (seat_part 1 xs) in
    let abc = and_l (a && b && c) _ h in
    let ab = and_l (a && b) c abc in
    record { long = leb-true _ _ (and_l a b ab); first = and_r a b ab; second = and_r (a && b) c abc; fit = and_r (a && b && c) _ h }

-- memory in which each of the two seats passes by itself
pub record Seated (xs : List ℕ) : Type 0 where
  pub long : state_size ≤ length xs
  pub first : is_seat (seat_part 0 xs) ≡ true
  pub second : is_seat (seat_part 1 xs) ≡ true

pub seated : {xs : List ℕ} → Tests xs → Seated xs
seated t = record { long = t.long; first = t.first; second = t.second }

module _ (xs : List ℕ) (long : state_size ≤ length xs) where
  pub seat-long : (firm : ℕ) → firm ≤ 1 → length (seat_part firm xs) ≡ size
  seat-long firm le = length-take-le size (drop (firm * size) xs) (omega (arith, length-drop (firm * size) xs))

  -- the numbers of both seats, and what is past them
  pub seats-parts : seat_part 0 xs ++ (seat_part 1 xs ++ drop state_size xs) ≡ xs
  seats-parts =
      ap (λ (l : List ℕ). take size xs ++ (take size (drop size xs) ++ l)) (sym (drop-drop size size xs))
      ∙ (ap (λ (l : List ℕ). take size xs ++ l) (take-append-drop size (drop size xs)) ∙ take-append-drop size xs)

-- the numbers of a seat that passes are just those of the seat that they stand for
pub seat-again : (ys : List ℕ) → length ys ≡ size → is_seat ys ≡ true → encode_seat (decode_seat ys) ≡ ys
unfolding is_seat decode_seat encode_seat
seat-again ys long h = go (eqb (get_or ys 0 0) 0) h
  where
    go : (b : Bool) → cond b (all_zero ys) (is_sound ys) ≡ true → encode_seat (cond b empty (taken (decode ys))) ≡ ys
    go true h = ap zeros (sym long) ∙ sym (zeros-all ys h)
    go false h = sym (restored ys h) ∙ take_all size ys (omega (arith, long))

-- a firm's seat as the state has it
pub seat-at : (xs : List ℕ) (firm : ℕ) → firm ≤ 1 → (facing (firm_of firm) (decode_seats xs)).first ≡ decode_seat (seat_part firm xs)
unfolding decode_seats facing turned
seat-at xs zero le = refl
seat-at xs (suc zero) le = refl
seat-at xs (suc (suc n)) le = absurd (omega arith)

-- A FIRM'S SEAT IN MEMORY becomes another, and the rest stays: the state with that seat is stored
pub seat-put : (xs : List ℕ) → Seated xs → (firm : ℕ) → firm ≤ 1 → (seat : Seat)
    → take (firm * size) xs ++ (encode_seat seat ++ drop size (drop (firm * size) xs))
    ≡ stored_seats (facing (firm_of firm) (record { first = seat; second = (facing (firm_of firm) (decode_seats xs)).second })) xs
unfolding decode_seats facing turned stored_seats encode_seats
seat-put xs t zero le seat =
    ap (λ (l : List ℕ). encode_seat seat ++ l)
    (sym (take-append-drop size (drop size xs))
    ∙ ap₂ (λ (a b : List ℕ). a ++ b) (sym (seat-again (seat_part 1 xs) (seat-long xs t.long 1 (omega arith)) t.second)) (drop-drop size size xs))
    ∙ sym (append_assoc (encode_seat seat) (encode_seat (decode_seat (seat_part 1 xs))) (drop state_size xs))
seat-put xs t (suc zero) le seat =
    ap₂ (λ (a b : List ℕ). a ++ (encode_seat seat ++ b)) (sym (seat-again (seat_part 0 xs) (seat-long xs t.long 0 (omega arith)) t.first)) (drop-drop size size xs)
    ∙ sym (append_assoc (encode_seat (decode_seat (seat_part 0 xs))) (encode_seat seat) (drop state_size xs))
seat-put xs t (suc (suc n)) le seat = absurd (omega arith)
