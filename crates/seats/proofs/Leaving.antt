-- Old entries leave a firm's log. Assumes nothing.
use Prim.Native.Nat.{ℕ, ◌≤◌}
use native.Mathlib.Omega.{arith}
use mathlib.Core.Path.{◌≡◌, sym, ap, ap₂, ◌∙◌, subst}
use mathlib.Core.Bool.{true}
use mathlib.Core.List.{List, ◌++◌, append-nil}
use lib.ListN.{length, get_or, drop_of_length-le}
use lib.Dec.{eqb}
use borrow.Author.Tests.{eq-eqb, ne_eqb}
use Rattle.machine.specs.declared.Entry.{Entry}
use Rattle.machine.specs.State.{State, rules_in}
use Rattle.machine.specs.Entries.{are_ordered, recent, is_recent}
use Rattle.machine.specs.Offers.{longest}
use Rattle.machine.proofs.Lists.{keep-le}
use Rattle.daylog.specs.Inner.Log.{HeldIn, entries_in, log_numbers, last_of}
use Rattle.state.specs.State.{size, encode, stored, decode}
use Rattle.state.specs.Sound.{is_sound}
use Rattle.state.specs.Inner.Laid.{Laid, with_log}
use Rattle.state.specs.Inner.Tests.{log_part, put_log}
use Rattle.state.proofs.Laid.{laid-held, laid-entries}
use Rattle.state.proofs.Uses.{window-most}
use Rattle.state.proofs.After.{log-after}
use Rattle.grant.proofs.Joined.{laid-last}
use Rattle.firms.specs.Seats.{empty, taken, trimmed, trimmed_seat}
use Rattle.seats.specs.Memory.{encode_seat, decode_seat, is_seat}
use Rattle.seats.proofs.Laws.{seat-again}
use Rattle.seats.proofs.Tested.{laid_of, order-of}

module _ (xs : List ℕ) (h : is_sound xs ≡ true) {w t : ℕ} (window : w ≡ longest (rules_in (decode xs))) (clock : t ≡ (decode xs).part.clock) where
  pub trim-read : HeldIn (log_part xs) × (w ≤ 86_400_000) × (are_ordered 0 t (entries_in (log_part xs)) ≡ true)
  trim-read = (
    laid-held (laid_of xs h),
    omega (arith, window, window-most (laid_of xs h).fits),
    ap (are_ordered 0 t) (laid-entries (laid_of xs h)) ∙ order-of xs h clock,
  )

  module _ {n : ℕ} (inside : n ≡ length (recent w t (entries_in (log_part xs)))) where
    pub trim-few : HeldIn (log_part xs) × (n ≤ length (entries_in (log_part xs)))
    unfolding recent
    trim-few = (laid-held (laid_of xs h), omega (arith, inside, keep-le (is_recent w t) (entries_in (log_part xs))))

    pub trim-is : {ys : List ℕ} → ys ≡ log_numbers (last_of n (entries_in (log_part xs))) → put_log xs ys ≡ stored (trimmed (decode xs)) xs
    unfolding trimmed
    trim-is e =
        let s = decode xs in
        let kept : last_of n s.log ≡ recent w t s.log =
        ap (λ (k : ℕ). last_of k s.log) (inside ∙ ap (λ (l : List Entry). length (recent w t l)) (laid-entries (laid_of xs h)))
        ∙ sym (laid-last (laid_of xs h) t w (order-of xs h clock))
        in
        log-after (laid_of xs h) (last_of n) e
        ∙ ap (λ (l : List Entry). stored (with_log s l) xs) (kept ∙ ap₂ (λ (a b : ℕ). recent a b s.log) window clock)

-- a seat in which no firm sits stays, and one that is armed is trimmed
pub empty_left : (xs : List ℕ) → is_seat xs ≡ true → length xs ≡ size → get_or xs 0 0 ≡ 0 → xs ≡ encode_seat (trimmed_seat (decode_seat xs))
unfolding decode_seat trimmed_seat
empty_left xs h long m = sym (seat-again xs long h) ∙ rw (eq-eqb (get_or xs 0 0) 0 m)

pub armed-left : (xs : List ℕ) → length xs ≡ size → (get_or xs 0 0 ≡ 0 → ⊥) → {ys : List ℕ} → ys ≡ stored (trimmed (decode xs)) xs
    → ys ≡ encode_seat (trimmed_seat (decode_seat xs))
unfolding decode_seat trimmed_seat encode_seat stored
armed-left xs long m e =
    rw (ne_eqb (get_or xs 0 0) 0 m)
    (e ∙ (ap (λ (l : List ℕ). encode (trimmed (decode xs)) ++ l) (drop_of_length-le xs {i = size} (omega (arith, long))) ∙ append-nil (encode (trimmed (decode xs)))))
