-- The test of the state, step by step as the code makes it. Assumes nothing.
use Prim.Native.Nat.{ℕ, ◌+◌, ◌*◌, ◌≤◌, ◌<◌}
use native.Mathlib.Omega.{arith}
use mathlib.Core.Path.{◌≡◌, refl, sym, ap, ap₂, ◌∙◌}
use mathlib.Core.Bool.{Bool, true, false, not, cond, ◌&&◌}
use mathlib.Core.List.{List}
use lib.ListN.{length, get_or, take, drop}
use lib.Dec.{eqb, leb}
use borrow.Author.Tests.{eq-eqb, ne_eqb, le-leb, lt-leb, not-true, not-false}
use Rattle.tables.specs.Inner.Tables.{all_zero}
use Rattle.machine.specs.Entries.{are_ordered}
use Rattle.machine.specs.Refusals.{used}
use Rattle.machine.specs.Judge.{log_places}
use Rattle.state.specs.State.{size, decode}
use Rattle.state.specs.Sound.{is_sound}
use Rattle.state.specs.Inner.Laid.{Laid}
use Rattle.state.proofs.Exactly.{taken-apart, sound-decode, sound-is-laid}
use Rattle.state.proofs.Map.{decode_is}
use Rattle.firms.specs.Seats.{Seat, empty, taken}
use Rattle.seats.specs.Memory.{state_size, seat_part, decode_seat, decode_seats, is_seat, fit_together, fit_by, seats_fit, is_sound_memory}

-- ---- one seat

module _ (xs : List ℕ) where
  pub seat-zero : get_or xs 0 0 ≡ 0 → {b : Bool} → b ≡ all_zero xs → b ≡ is_seat xs
  unfolding is_seat
  seat-zero m e = rw (eq-eqb (get_or xs 0 0) 0 m) e

  pub seat-armed : (get_or xs 0 0 ≡ 0 → ⊥) → {b : Bool} → b ≡ is_sound xs → b ≡ is_seat xs
  unfolding is_seat
  seat-armed m e = rw (ne_eqb (get_or xs 0 0) 0 m) e

  -- ---- two armed firms

  module _ (h : is_sound xs ≡ true) where
    pub long_of : size ≤ length xs
    long_of = (taken-apart xs h).long

    pub laid_of : Laid xs
    laid_of = sound-is-laid xs h

    pub order-of : {t : ℕ} → t ≡ (decode xs).part.clock → are_ordered 0 t (decode xs).log ≡ true
    order-of e = ap (λ (t : ℕ). are_ordered 0 t (decode xs).log) e ∙ (sound-decode xs h).ordered

    pub use-of : {t n : ℕ} → t ≡ (decode xs).part.clock → n ≡ used (decode xs) t → n ≡ used (decode xs) (decode xs).part.clock
    use-of e f = f ∙ ap (used (decode xs)) e

    pub use-low : used (decode xs) (decode xs).part.clock ≤ log_places
    use-low = (sound-decode xs h).in_use

    pub entries-low : length (decode xs).log ≤ log_places
    entries-low = (sound-decode xs h).number

    pub name_of : get_or xs 2 0 ≡ (decode xs).part.profile.firm
    name_of = sym (ap (λ s. s.part.profile.firm) (decode_is xs))

pub fit_is : (xs ys : List ℕ) → is_sound xs ≡ true → is_sound ys ≡ true → (e f u w : ℕ)
    → e ≡ length (decode xs).log → f ≡ length (decode ys).log
    → u ≡ used (decode xs) (decode xs).part.clock → w ≡ used (decode ys) (decode ys).part.clock
    → (not (eqb (get_or xs 2 0) (get_or ys 2 0)) && leb (e + f) 512 && leb (u + w) 512) ≡ fit_together (decode xs) (decode ys)
unfolding fit_together
fit_is xs ys h k e f u w a b c d = rw (name_of xs h, name_of ys k, a, b, c, d)

-- ---- the state

module _ (xs : List ℕ) where
  pub firm-short : length xs < state_size → false ≡ is_sound_memory xs
  unfolding is_sound_memory
  firm-short h = rw (lt-leb state_size (length xs) h)

  module _ (long : state_size ≤ length xs) where
    pub seats-first : is_seat (seat_part 0 xs) ≡ false → false ≡ is_sound_memory xs
    unfolding is_sound_memory
    seats-first e = rw (le-leb state_size (length xs) long, e)

    pub seats-second : is_seat (seat_part 0 xs) ≡ true → is_seat (seat_part 1 xs) ≡ false → false ≡ is_sound_memory xs
    unfolding is_sound_memory
    seats-second a e = rw (le-leb state_size (length xs) long, a, e)

    module _ (a : is_seat (seat_part 0 xs) ≡ true) (b : is_seat (seat_part 1 xs) ≡ true) where
      abbrev mark0 : ℕ
      mark0 = get_or (seat_part 0 xs) 0 0

      abbrev mark1 : ℕ
      mark1 = get_or (seat_part 1 xs) 0 0

      by-seats : fit_by (decode_seat (seat_part 0 xs)) (decode_seat (seat_part 1 xs)) ≡ is_sound_memory xs
      unfolding is_sound_memory seats_fit decode_seats
      by-seats = rw (le-leb state_size (length xs) long, a, b)

      pub first-empty : mark0 ≡ 0 → not (eqb mark1 0) ≡ is_sound_memory xs
      unfolding decode_seat fit_by
      first-empty e = go (eqb mark1 0) ∙ (ap (λ (x : Seat). fit_by x (decode_seat (seat_part 1 xs))) (sym is-empty) ∙ by-seats)
        where
          is-empty : decode_seat (seat_part 0 xs) ≡ empty
          is-empty = rw (eq-eqb mark0 0 e)

          go : (c : Bool) → not c ≡ fit_by empty (cond c empty (taken (decode (seat_part 1 xs))))
          go true = refl
          go false = refl

      pub second_empty : (mark0 ≡ 0 → ⊥) → mark1 ≡ 0 → true ≡ is_sound_memory xs
      unfolding decode_seat fit_by
      second_empty m e = rw (ne_eqb mark0 0 m, eq-eqb mark1 0 e) at by-seats

      pub two-armed : (mark0 ≡ 0 → ⊥) → (mark1 ≡ 0 → ⊥) → {r : Bool} → r ≡ fit_together (decode (seat_part 0 xs)) (decode (seat_part 1 xs)) → r ≡ is_sound_memory xs
      unfolding decode_seat fit_by
      two-armed m n e = e ∙ (rw (ne_eqb mark0 0 m, ne_eqb mark1 0 n) at by-seats)

  pub armed-sound : (firm : ℕ) → is_seat (seat_part firm xs) ≡ true → (get_or (seat_part firm xs) 0 0 ≡ 0 → ⊥) → is_sound (seat_part firm xs) ≡ true
  unfolding is_seat
  armed-sound firm h m = rw (ne_eqb (get_or (seat_part firm xs) 0 0) 0 m) at h

-- an armed seat is sound
pub seat-armed-sound : (xs : List ℕ) → is_seat xs ≡ true → (get_or xs 0 0 ≡ 0 → ⊥) → is_sound xs ≡ true
unfolding is_seat
seat-armed-sound xs h m = rw (ne_eqb (get_or xs 0 0) 0 m) at h
