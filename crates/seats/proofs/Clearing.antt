-- Clearing one firm, and the state. Assumes nothing.
use Prim.Native.Nat.{ℕ, zero, suc, ◌+◌, ◌*◌, ◌-◌, ◌≤◌, ◌<◌}
use native.Mathlib.Omega.{arith}
use mathlib.Core.Path.{◌≡◌, refl, sym, ap, ap₂, ◌∙◌}
use mathlib.Core.Bool.{Bool, true, false, not, cond}
use mathlib.Core.List.{List, ◌++◌}
use lib.ListN.{length, take, drop}
use lib.Dec.{eqb, ltb}
use borrow.Author.Tests.{lt-ltb, le-ltb}
use Rattle.tables.specs.Inner.Tables.{zeros}
use Rattle.tables.proofs.AllZero.{zeros-add}
use Rattle.machine.specs.Refusals.{first_of}
use Rattle.state.specs.State.{size}
use Rattle.std.specs.declared.result.Result.TheVariants.{Ok, Err}
use Rattle.firms.specs.Seats.{Seat, empty, taken, Seats, vacant, facing, left_by}
use Rattle.firms.specs.Doings.{clear, beside_of, Outcome, stays, clear_at, at_seat, outcome_of, after_first, after_doing}
use Rattle.seats.specs.Memory.{state_size, encode_seat, encode_seats, stored_seats, decode_seats, is_sound_memory, firm_of, clear_refusal, clear_firm_answer, clear_firm_memory, clear_all_answer, clear_all_memory}
use Rattle.seats.proofs.Laws.{taken-apart, seated, seat-long, seat-put}
use Rattle.seats.proofs.Calls.{span, lent_is}

module _ (xs : List ℕ) (firm : ℕ) where
  pub clear-short : length xs < state_size → (Err 1 ≡ clear_firm_answer xs firm) × (xs ≡ clear_firm_memory xs firm)
  unfolding clear_firm_answer clear_firm_memory clear_refusal first_of
  clear-short h = (rw (lt-ltb _ _ h), rw (lt-ltb _ _ h))

  pub clear-firm : state_size ≤ length xs → 1 < firm → (Err 13 ≡ clear_firm_answer xs firm) × (xs ≡ clear_firm_memory xs firm)
  unfolding clear_firm_answer clear_firm_memory clear_refusal first_of
  clear-firm l h = (rw (le-ltb _ _ l, lt-ltb _ _ h), rw (le-ltb _ _ l, lt-ltb _ _ h))

  pub clear-unsound : state_size ≤ length xs → firm ≤ 1 → is_sound_memory xs ≡ false → (Err 2 ≡ clear_firm_answer xs firm) × (xs ≡ clear_firm_memory xs firm)
  unfolding clear_firm_answer clear_firm_memory clear_refusal first_of
  clear-unsound l f h = (rw (le-ltb _ _ l, le-ltb _ _ f, h), rw (le-ltb _ _ l, le-ltb _ _ f, h))

  -- the seat is empty, and the other stays
  pub cleared-seats : (u : Seats) → after_first u clear ≡ record { first = empty; second = u.second }
  unfolding after_first outcome_of at_seat clear_at stays
  cleared-seats u = go u.first (beside_of u.second).armed
    where
      go : (x : Seat) (b : Bool) → ◌≡◌ {A = Seats} (record { first = (clear_at b x).seat; second = left_by (clear_at b x).joined u.second }) (record { first = empty; second = u.second })
      go (taken s) b = refl
      go empty true = refl
      go empty false = refl

  module _ (l : state_size ≤ length xs) (f : firm ≤ 1) (h : is_sound_memory xs ≡ true) where
    pub clear-done : {ys : List ℕ} → ys ≡ zeros (length (take (firm * size + size - firm * size) (drop (firm * size) xs)))
        → (Ok tt ≡ clear_firm_answer xs firm)
        × (take (firm * size) xs ++ (ys ++ drop (firm * size + size - firm * size) (drop (firm * size) xs)) ≡ clear_firm_memory xs firm)
    unfolding clear_firm_answer clear_firm_memory clear_refusal first_of encode_seat
    clear-done {ys} e = (rw (le-ltb _ _ l, le-ltb _ _ f, h), rw (le-ltb _ _ l, le-ltb _ _ f, h) put)
      where
        zeroed : ys ≡ encode_seat empty
        zeroed = e ∙ ap zeros (ap length (lent_is xs firm) ∙ seat-long xs l firm f)

        put : take (firm * size) xs ++ (ys ++ drop (firm * size + size - firm * size) (drop (firm * size) xs)) ≡ stored_seats (after_doing (firm_of firm) (decode_seats xs) clear) xs
        put =
            ap₂ (λ (a : List ℕ) (n : ℕ). take (firm * size) xs ++ (a ++ drop n (drop (firm * size) xs))) zeroed (span (firm * size))
            ∙ (seat-put xs (seated (taken-apart xs h)) firm f empty
            ∙ ap (λ (u : Seats). stored_seats (facing (firm_of firm) u) xs) (sym (cleared-seats (facing (firm_of firm) (decode_seats xs)))))

-- the state
pub firm-short : (xs : List ℕ) → length xs < state_size → (Err 1 ≡ clear_all_answer xs) × (xs ≡ clear_all_memory xs)
unfolding clear_all_answer clear_all_memory
firm-short xs h = (rw (lt-ltb _ _ h), rw (lt-ltb _ _ h))

pub seats-cleared : (xs : List ℕ) → state_size ≤ length xs → (Ok tt ≡ clear_all_answer xs) × (zeros state_size ++ drop state_size xs ≡ clear_all_memory xs)
unfolding clear_all_answer clear_all_memory stored_seats encode_seats vacant encode_seat
seats-cleared xs h = (rw (le-ltb _ _ h), rw (le-ltb _ _ h) (ap (λ (l : List ℕ). l ++ drop state_size xs) (sym (zeros-add size size))))
