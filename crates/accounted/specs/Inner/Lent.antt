-- What the functions over lent memory and an account ask for. Assumes nothing.
use Rattle.std.specs.Prelude.{ℕ, ◌+◌, ◌≤◌, ◌≡◌, true, List, [], ◌∷◌, length, take, eqb}
use Rattle.machine.specs.Refusals.{first_of}
use Rattle.calls.specs.Calls.{is_short, mark_of}
use Rattle.figures.specs.Account.{account_size, most, is_account}
use Rattle.figures.specs.Inner.Rows.{greatest_of}

-- an account with no figure above 10^18
pub record KeptAccount (account : List ℕ) : Type 0 where
  pub long : account_size ≤ length account
  pub is : is_account account ≡ true

-- and one that has room for whatever an event adds, at most 10^14
pub record RoomyAccount (account : List ℕ) : Type 0 where
  pub kept : KeptAccount account
  pub room : greatest_of (take account_size account) + 100_000_000_000_000 ≤ most

-- the refusal beside an account that is not one: by the state's memory, 1 and 4, else 2
unfoldable pub without_account : List ℕ → ℕ
without_account memory = first_of ((is_short memory, 1) ∷ (eqb (mark_of memory) 0, 4) ∷ (true, 2) ∷ [])
