-- Resets in either order, of lent memory: accepted orders at one time leave the same numbers whichever comes first. Only the memory is meant, not the
-- verdicts. Assumes nothing.
use Rattle.std.specs.Prelude.{ℕ, ◌≡◌, false, List}
use Rattle.machine.specs.Calls.{Call, order}
use Rattle.machine.specs.Judge.{is_refusal}
use Rattle.state.specs.State.{decode, stored}
use Rattle.demand.specs.Resets.{sets_of, union, reset_to}
use Rattle.calls.specs.Calls.{call_answer, call_memory}

-- a call is accepted: not refused, at any verdict
abbrev pub Accepted : List ℕ → Call → Type 0
Accepted xs call = is_refusal (call_answer xs call) ≡ false

-- the memory after one order, and after two at one time
abbrev pub after_one : List ℕ → ℕ → ℕ → ℕ → List ℕ
after_one xs time root reset = call_memory xs (order time root reset)

abbrev pub after_two : List ℕ → ℕ → ℕ → ℕ → ℕ → ℕ → List ℕ
after_two xs time root reset root' reset' = after_one (after_one xs time root reset) time root' reset'

-- what is promised of accepted orders at one time, on any memory
pub record EitherOrder (xs : List ℕ) (time : ℕ) : Type 0 where
  -- where each of two would be accepted, the second is accepted after the first
  pub both :
      (root reset root' reset' : ℕ) → Accepted xs (order time root reset) → Accepted xs (order time root' reset')
      → Accepted (after_one xs time root reset) (order time root' reset')
  -- the two leave what one reset would leave that zeroes and lifts all that either does: totals, flags, entries that leave, trips and lockouts
  pub union :
      (root reset root' reset' : ℕ) → Accepted xs (order time root reset) → Accepted xs (order time root' reset')
      → after_two xs time root reset root' reset' ≡ stored (reset_to time (union (sets_of root reset) (sets_of root' reset')) (decode xs)) xs
  -- so any two may be exchanged, of one root or of two roots
  pub exchanged :
      (root reset root' reset' : ℕ) → Accepted xs (order time root reset) → Accepted xs (order time root' reset')
      → after_two xs time root reset root' reset' ≡ after_two xs time root' reset' root reset
  -- the same reset twice leaves what it left once
  pub repeated : (root reset : ℕ) → Accepted xs (order time root reset) → after_two xs time root reset root reset ≡ after_one xs time root reset
  -- SYMBOL then FIRM leaves what BOTH leaves, and so does FIRM then SYMBOL
  pub symbol_firm : (root : ℕ) → Accepted xs (order time root 3) → after_two xs time root 1 root 2 ≡ after_one xs time root 3
  pub firm_symbol : (root : ℕ) → Accepted xs (order time root 3) → after_two xs time root 2 root 1 ≡ after_one xs time root 3
  -- T then E leaves what 6 leaves, and so does E then T
  pub root_firm_unlocked : (root : ℕ) → Accepted xs (order time root 6) → after_two xs time root 4 root 5 ≡ after_one xs time root 6
  pub firm_root_unlocked : (root : ℕ) → Accepted xs (order time root 6) → after_two xs time root 5 root 4 ≡ after_one xs time root 6
