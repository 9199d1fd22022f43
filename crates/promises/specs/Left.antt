-- What the reset of an accepted order leaves of lent memory: totals, marks, entries of the log and use. Assumes nothing.
use Rattle.std.specs.Prelude.{ℕ, ◌≤◌, ◌≡◌, true, List, []}
use Rattle.laws.specs.Folds.{every}
use Rattle.machine.specs.declared.Offer.{Offer}
use Rattle.machine.specs.Answer.{Refused}
use Rattle.machine.specs.State.{State, roots_in}
use Rattle.machine.specs.Entries.{is_flagged}
use Rattle.machine.specs.Register.{kept_places}
use Rattle.machine.specs.Refusals.{used}
use Rattle.machine.specs.Judge.{log_places}
use Rattle.machine.specs.Calls.{order, offer}
use Rattle.state.specs.State.{decode}
use Rattle.calls.specs.Calls.{call_answer}
use Rattle.promises.specs.Resets.{Accepted, after_one}

-- the state after an order for a root with a reset
abbrev pub left_by : List ℕ → ℕ → ℕ → ℕ → State
left_by xs time root reset = decode (after_one xs time root reset)

-- the places that the firm's orders sent away keep
abbrev pub kept_by : List ℕ → ℕ
kept_by xs = kept_places (decode xs).part.register

-- what is promised of an accepted order for a root at a time, on any memory
pub record ResetLeaves (xs : List ℕ) (time root : ℕ) : Type 0 where
  -- T, E and both of these, which are 4 to 6, leave every total, and every entry of the log with its flags
  pub totals_stay : (reset : ℕ) → 4 ≤ reset → Accepted xs (order time root reset) → (left_by xs time root reset).part.accounts ≡ (decode xs).part.accounts
  pub log_stays : (reset : ℕ) → 4 ≤ reset → Accepted xs (order time root reset) → (left_by xs time root reset).log ≡ (decode xs).log
  -- T leaves the marks that SYMBOL leaves, E those that FIRM leaves, and both those that BOTH leaves
  pub root_unlocked : Accepted xs (order time root 4) → (left_by xs time root 4).part.locks ≡ (left_by xs time root 1).part.locks
  pub firm_unlocked : Accepted xs (order time root 5) → (left_by xs time root 5).part.locks ≡ (left_by xs time root 2).part.locks
  pub both_unlocked : Accepted xs (order time root 6) → (left_by xs time root 6).part.locks ≡ (left_by xs time root 3).part.locks
  -- no entry is left that counts for neither its root nor the firm
  pub flagged : (reset : ℕ) → Accepted xs (order time root reset) → every is_flagged (left_by xs time root reset).log ≡ true
  -- BOTH on a firm's only root leaves no entry of that firm
  pub emptied : roots_in (decode xs) ≡ 1 → Accepted xs (order time root 3) → (left_by xs time root 3).log ≡ []
  -- so the firm's use is at most the places that its orders sent away keep
  pub used_then : roots_in (decode xs) ≡ 1 → Accepted xs (order time root 3) → (later : ℕ) → used (left_by xs time root 3) later ≤ kept_by xs
  -- and its next offer is refused with 15 only where these alone fill the log
  pub full_then :
      roots_in (decode xs) ≡ 1 → Accepted xs (order time root 3) → (o : Offer) → call_answer (after_one xs time root 3) (offer o) ≡ Refused 15
      → log_places ≤ kept_by xs
