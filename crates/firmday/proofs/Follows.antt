-- The memory follows the state's meaning, whatever is asked for either firm. Assumes nothing.
use Prim.Native.Nat.{ℕ, ◌*◌, ◌-◌, ◌≤◌}
use native.Mathlib.Omega.{arith}
use mathlib.Core.Path.{◌≡◌, refl, sym, ap, ◌∙◌, subst, subst⁻¹}
use mathlib.Core.Logic.{◌⊎◌, inl, inr}
use mathlib.Core.Bool.{Bool, true, false, ◌||◌, false≢true}
use mathlib.Core.List.{List}
use lib.ListN.{length, get_or, drop}
use lib.Dec.{eqb}
use borrow.Author.Tests.{eq-eqb, ne_eqb, eqb-true, eqb-false, le-ltb}
use Rattle.machine.specs.Answer.{Refused}
use Rattle.machine.specs.State.{State}
use Rattle.machine.specs.Calls.{Call}
use Rattle.machine.specs.Refusals.{first_of}
use Rattle.state.specs.State.{size, decode}
use Rattle.state.specs.Sound.{Given}
use Rattle.firms.specs.Seats.{Seat, empty, taken, Seats, vacant, turned, facing, left_by, room_beside}
use Rattle.firms.specs.Doings.{call, clear, refused, done, answered, is_taken, beside_of, stays, call_at, called_by, clear_at, at_seat, outcome_of as done_for, after_first, reply_to, after_doing}
use Rattle.firms.specs.Sound.{SoundSeats}
use Rattle.firms.proofs.Seats.{facing-twice}
use Rattle.firms.proofs.Sound.{GivenBy, doing-sound, vacant-sound}
use Rattle.seats.specs.Memory.{state_size, seat_part, encode_seats, stored_seats, decode_seat, decode_seats, is_sound_memory, firm_of, answer_in, firm_answer, firm_memory, clear_refusal, clear_firm_answer, clear_firm_memory}
use Rattle.seats.proofs.Laws.{taken-apart, seat-at}
use Rattle.seats.proofs.Exactly.{tested-sound, all-again, all-seated, stored-sound}
use Rattle.seats.proofs.Calls.{unarmed-is, sound-is, refused-is, ready-is}
use Rattle.seats.proofs.Kept.{kept-sound, follows}
use Rattle.seats.proofs.Both.{other-start, other-decoded}
use Rattle.seats.proofs.Clearing.{clear-unsound}
use Rattle.seats.proofs.Armable.{part-mark}
use Rattle.firmday.specs.Day.{clear_reply}

-- memory that a state is lent: long enough, and sound, or with no firm armed, whatever else it holds
pub record Lent (xs : List ℕ) : Type 0 where
  pub long : state_size ≤ length xs
  pub held : (is_sound_memory xs ≡ true) ⊎ (decode_seats xs ≡ vacant)

abbrev pub Goes : List ℕ → Seats → Type 0
Goes ys u = Lent ys × (decode_seats ys ≡ u)

pub seats-sound : (xs : List ℕ) → Lent xs → SoundSeats Given (decode_seats xs)
seats-sound xs l = go l.held
  where
    go : (is_sound_memory xs ≡ true) ⊎ (decode_seats xs ≡ vacant) → SoundSeats Given (decode_seats xs)
    go (inl h) = (tested-sound xs (taken-apart xs h)).0
    go (inr e) = subst⁻¹ (SoundSeats Given) e (vacant-sound Given)

-- what is stored is lent again
pub stored-lent : (u : Seats) → SoundSeats Given u → (xs : List ℕ) → Goes (stored_seats u xs) u
unfolding stored_seats encode_seats is_taken vacant
stored-lent u i xs =
    let again = all-again u i.first i.second (drop state_size xs) in
    (record { long = (all-seated u i.first i.second (drop state_size xs)).long; held = go (is_taken u.first || is_taken u.second) refl }, again)
  where
    none : (x y : Seat) → (is_taken x || is_taken y) ≡ false → ◌≡◌ {A = Seats} (record { first = x; second = y }) vacant
    none empty empty e = refl
    none empty (taken s) e = absurd (false≢true (sym e))
    none (taken s) y e = absurd (false≢true (sym e))

    go : (b : Bool) → (is_taken u.first || is_taken u.second) ≡ b → (is_sound_memory (stored_seats u xs) ≡ true) ⊎ (decode_seats (stored_seats u xs) ≡ vacant)
    go true e = inl (stored-sound u i.first i.second (drop state_size xs) i e)
    go false e = inr (all-again u i.first i.second (drop state_size xs) ∙ none u.first u.second e)

pub taken-empty : {s : State} → taken s ≡ empty → ⊥
unfolding is_taken
taken-empty e = false≢true (sym (ap is_taken e))

none_first : (f : Bool) → (facing f vacant).first ≡ empty
unfolding facing turned vacant
none_first true = refl
none_first false = refl

none-second : (f : Bool) → (facing f vacant).second ≡ empty
unfolding facing turned vacant
none-second true = refl
none-second false = refl

-- ---- what the meaning leaves as it was

vacant-stays : (f : Bool) → after_doing f vacant clear ≡ vacant
unfolding facing turned vacant after_first done_for at_seat beside_of clear_at stays is_taken
vacant-stays true = refl
vacant-stays false = refl

vacant-told : (f : Bool) → reply_to f vacant clear ≡ refused 2
unfolding facing turned vacant done_for at_seat beside_of clear_at stays is_taken
vacant-told true = refl
vacant-told false = refl

some-cleared : (f : Bool) (x y : Seat) → (is_taken x || is_taken y) ≡ true → reply_to f (record { first = x; second = y }) clear ≡ done
unfolding facing turned done_for at_seat beside_of clear_at stays is_taken
some-cleared f empty empty e = absurd (false≢true e)
some-cleared true empty (taken r) e = refl
some-cleared false empty (taken r) e = refl
some-cleared true (taken s) empty e = refl
some-cleared false (taken s) empty e = refl
some-cleared true (taken s) (taken r) e = refl
some-cleared false (taken s) (taken r) e = refl

empty-stays : (v : Seats) → v.first ≡ empty → (c : Call) → (after_first v (call c) ≡ v) × ((done_for v (call c)).reply ≡ answered (Refused 4))
unfolding after_first done_for at_seat beside_of call_at stays
empty-stays v e c = (
  ap (λ (x : Seat). record { first = (call_at (room_beside v.second) x c).seat; second = left_by (call_at (room_beside v.second) x c).joined v.second }) e
      ∙ (λ i. record { first = sym e i; second = v.second }),
  ap (λ (x : Seat). (call_at (room_beside v.second) x c).reply) e,
)

module _ (xs : List ℕ) (l : Lent xs) (n : ℕ) (le : n ≤ 1) where
  abbrev u : Seats
  u = decode_seats xs

  abbrev f : Bool
  f = firm_of n

  pub own-empty : get_or xs (n * size) 0 ≡ 0 → (facing f u).first ≡ empty
  unfolding decode_seat
  own-empty m = seat-at xs n le ∙ rw (eq-eqb (get_or (seat_part n xs) 0 0) 0 (part-mark xs n ∙ m))

  pub own-taken : (get_or xs (n * size) 0 ≡ 0 → ⊥) → (facing f u).first ≡ taken (decode (seat_part n xs))
  unfolding decode_seat
  own-taken m = seat-at xs n le ∙ rw (ne_eqb (get_or (seat_part n xs) 0 0) 0 (λ z. m (sym (part-mark xs n) ∙ z)))

  pub own-sound : (get_or xs (n * size) 0 ≡ 0 → ⊥) → is_sound_memory xs ≡ true
  own-sound m = go l.held
    where
      go : (is_sound_memory xs ≡ true) ⊎ (u ≡ vacant) → is_sound_memory xs ≡ true
      go (inl h) = h
      go (inr e) = absurd (taken-empty (sym (own-taken m) ∙ (ap (λ (v : Seats). (facing f v).first) e ∙ none_first f)))

  pub other-sound : (get_or xs (size - n * size) 0 ≡ 0 → ⊥) → is_sound_memory xs ≡ true
  unfolding decode_seat
  other-sound m = go l.held
    where
      marked : get_or (seat_part (1 - n) xs) 0 0 ≡ 0 → ⊥
      marked z = m (ap (λ (i : ℕ). get_or xs i 0) (other-start n le) ∙ (sym (part-mark xs (1 - n)) ∙ z))

      sits : (facing f u).second ≡ taken (decode (seat_part (1 - n) xs))
      sits = sym (other-decoded xs n le) ∙ rw (ne_eqb (get_or (seat_part (1 - n) xs) 0 0) 0 marked)

      go : (is_sound_memory xs ≡ true) ⊎ (u ≡ vacant) → is_sound_memory xs ≡ true
      go (inl h) = h
      go (inr e) = absurd (taken-empty (sym sits ∙ (ap (λ (v : Seats). (facing f v).second) e ∙ none-second f)))

  pub stays-so : {ys : List ℕ} → xs ≡ ys → {v : Seats} → v ≡ facing f u → Goes ys (facing f v)
  stays-so e g = (subst Lent e l, ap decode_seats (sym e) ∙ (sym (facing-twice f u) ∙ ap (facing f) (sym g)))

  -- ---- a call

  module _ (c : Call) where
    pub call-goes : Goes (firm_memory xs n c) (after_doing f u (call c)) × (answered (firm_answer xs n c) ≡ reply_to f u (call c))
    unfolding firm_answer answer_in done_for at_seat beside_of call_at called_by stays
    call-goes = go (eqb (get_or xs (n * size) 0) 0) refl
      where
        back : (room : ℕ) (x : Seat) → answered (answer_in (call_at room x c).reply) ≡ (call_at room x c).reply
        back room empty = refl
        back room (taken s) = refl

        go : (b : Bool) → eqb (get_or xs (n * size) 0) 0 ≡ b → Goes (firm_memory xs n c) (after_doing f u (call c)) × (answered (firm_answer xs n c) ≡ reply_to f u (call c))
        go true e =
            let m = eqb-true _ _ e in
            let d = refused-is xs n 4 (unarmed-is xs n l.long le m) (λ z. omega arith) c in
            let s = empty-stays (facing f u) (own-empty m) c in
            (stays-so d.1 s.0, ap answered (sym d.0) ∙ sym s.1)
        go false e =
            let m = eqb-false _ _ e in
            let h = own-sound m in
            let r = ready-is xs n (sym (sound-is xs n l.long le m h)) in
            let k = kept-sound xs n r c in (
              (record { long = (taken-apart _ k).long; held = inl k }, follows xs n r c),
              rw r.none (back (room_beside (facing f u).second) (facing f u).first),
            )

  -- ---- clearing the firm

  pub clear-goes : Goes (clear_firm_memory xs n) (after_doing f u clear)
  unfolding clear_firm_memory clear_refusal first_of GivenBy
  clear-goes = go (is_sound_memory xs) refl l.held
    where
      go : (b : Bool) → is_sound_memory xs ≡ b → (is_sound_memory xs ≡ true) ⊎ (u ≡ vacant) → Goes (clear_firm_memory xs n) (after_doing f u clear)
      go true h held =
          subst⁻¹ (λ (ys : List ℕ). Goes ys (after_doing f u clear)) (rw (le-ltb _ _ l.long, le-ltb _ _ le, h))
          (stored-lent (after_doing f u clear) (doing-sound Given f u (seats-sound xs l) clear tt) xs)
      go false h (inl k) = absurd (false≢true (sym h ∙ k))
      go false h (inr e) =
          let d = (clear-unsound xs n l.long le h).1 in
          (subst Lent d l, ap decode_seats (sym d) ∙ (e ∙ (sym (vacant-stays f) ∙ ap (λ (v : Seats). after_doing f v clear) (sym e))))

  pub clear_told : clear_reply (clear_firm_answer xs n) ≡ reply_to f u clear
  unfolding clear_reply clear_firm_answer clear_refusal first_of
  clear_told = go (is_sound_memory xs) refl l.held
    where
      go : (b : Bool) → is_sound_memory xs ≡ b → (is_sound_memory xs ≡ true) ⊎ (u ≡ vacant) → clear_reply (clear_firm_answer xs n) ≡ reply_to f u clear
      go true h held = rw (le-ltb _ _ l.long, le-ltb _ _ le, h) (sym (some-cleared f u.first u.second (tested-sound xs (taken-apart xs h)).1))
      go false h (inl k) = absurd (false≢true (sym h ∙ k))
      go false h (inr e) =
          ap clear_reply (sym (clear-unsound xs n l.long le h).0) ∙ (sym (vacant-told f) ∙ ap (λ (v : Seats). reply_to f v clear) (sym e))
