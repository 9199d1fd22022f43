-- What a question for the use of the log is answered, case by case. Assumes nothing.
use Prim.Native.Nat.{ℕ, ◌≤◌}
use native.Mathlib.Omega.{arith}
use mathlib.Core.Path.{◌≡◌, sym, ap, ◌∙◌}
use mathlib.Core.Bool.{true, false, not, ◌&&◌}
use mathlib.Core.List.{List}
use lib.Dec.{leb}
use borrow.Author.Tests.{ne_eqb, leb-true, not-false}
use Rattle.laws.proofs.Tests.{and_r}
use Rattle.measures.specs.Ranges.{is_in, times}
use Rattle.machine.specs.Entries.{are_ordered}
use Rattle.machine.specs.Refusals.{bad_time, used}
use Rattle.machine.proofs.Lists.{ordered-wider}
use Rattle.state.specs.State.{decode}
use Rattle.state.specs.Sound.{is_sound}
use Rattle.state.proofs.Exactly.{sound-decode}
use Rattle.firms.specs.Seats.{facing, room_beside}
use Rattle.seats.specs.declared.Using.{Using}
use Rattle.std.specs.Prelude.{Result}
use Rattle.std.specs.declared.result.Result.TheVariants.{Ok, Err}
use Rattle.seats.specs.Memory.{seat_part, decode_seats, firm_refusal, firm_of, use_in, use_answer}

-- ---- of one firm's part, by the clock that was read

module _ (xs : List ℕ) (time places : ℕ) {clock : ℕ} (is : clock ≡ (decode xs).part.clock) where
  pub use-late : not (is_in times time && leb clock time) ≡ true → Err 12 ≡ use_in (decode xs) places time
  unfolding use_in bad_time
  use-late h = rw (← is, h)

  pub use-told : not (is_in times time && leb clock time) ≡ false → {n : ℕ} → n ≡ used (decode xs) time → Ok (record { used = n; places = places }) ≡ use_in (decode xs) places time
  unfolding use_in bad_time
  use-told h e =
      let late : not (is_in times time && leb (decode xs).part.clock time) ≡ false = ap (λ (t : ℕ). not (is_in times time && leb t time)) (sym is) ∙ h in
      rw (late, e)

-- the entries stand in order up to a time that is not refused
pub use-ordered : (xs : List ℕ) → is_sound xs ≡ true → (time : ℕ) {clock : ℕ} → clock ≡ (decode xs).part.clock
    → not (is_in times time && leb clock time) ≡ false → are_ordered 0 time (decode xs).log ≡ true
use-ordered xs h time {clock} is late =
    let le : clock ≤ time = leb-true clock time (and_r (is_in times time) (leb clock time) (not-false _ late)) in
    ordered-wider 0 0 (decode xs).part.clock time (omega arith) (omega (arith, le, is)) (decode xs).log (sound-decode xs h).ordered

-- ---- of the state

pub use-refused : (xs : List ℕ) (firm : ℕ) {n : ℕ} → n ≡ firm_refusal xs firm → (n ≡ 0 → ⊥) → (time : ℕ) → Err n ≡ use_answer xs firm time
unfolding use_answer
use-refused xs firm e h time = rw (← e, ne_eqb _ _ h)

pub use-asked : (xs : List ℕ) (firm : ℕ) → firm_refusal xs firm ≡ 0 → (time : ℕ) {part : List ℕ} {places : ℕ} {r : Result Using ℕ} → part ≡ seat_part firm xs
    → places ≡ room_beside (facing (firm_of firm) (decode_seats xs)).second → r ≡ use_in (decode part) places time → r ≡ use_answer xs firm time
unfolding use_answer
use-asked xs firm none time own room is = is ∙ rw (own, room, none)
