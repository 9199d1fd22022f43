-- The register of orders sent away in its places: a count, and 64 places in the order of sending. Assumes nothing.
use Rattle.std.specs.Prelude.{ℕ, ◌+◌, ◌≤◌, ◌≡◌, Bool, true, cond, ◌&&◌, List, [], ◌∷◌, length, get_or, drop}
use Rattle.laws.specs.Folds.{every}
use Rattle.machine.specs.Register.{has_identity, no_sent, is_sent, are_different}
use Rattle.machine.specs.declared.Sent.{Sent}
use Rattle.shapes.specs.Shape.{Shape, table as counted}
use Rattle.tables.specs.Inner.Tables.{table_numbers, places}
use Rattle.register.specs.SentPlace.{sent_numbers, sent_from, sent_shape}

-- the register's table: how many orders there are, and their places
unfoldable pub register_shape : ℕ → Shape 129 (List Sent)
register_shape roots = counted 64 (sent_shape roots)

-- the numbers of the register's table
abbrev pub register_numbers : List Sent → List ℕ
register_numbers register = length register ∷ table_numbers 2 64 sent_numbers register

-- the orders in the first k places of a table
abbrev pub register_of : ℕ → List ℕ → List Sent
register_of k xs = places 2 sent_from k (drop 1 xs)

-- the register that a table holds
abbrev pub register_in : List ℕ → List Sent
register_in xs = register_of (get_or xs 0 0) xs

-- numbers are those of a register with so many roots, and no two of its orders have one identity
unfoldable pub register_holds : ℕ → List ℕ → Bool
register_holds roots xs = (register_shape roots).test xs && are_different (register_in xs)

-- the numbers of a register of at most 64 roots
pub record RegisterHeld (xs : List ℕ) : Type 0 where
  pub long : length xs ≡ 129
  pub few : get_or xs 0 0 ≤ 64
  pub valid : every (is_sent 64) (register_in xs) ≡ true
  pub is : xs ≡ register_numbers (register_in xs)

-- the place of the first order of an identity, or as many as there are if none has it
unfoldable pub place_of_identity : List Sent → ℕ → ℕ
place_of_identity [] identity = 0
place_of_identity (sent ∷ rest) identity = cond (has_identity identity sent) 0 (place_of_identity rest identity + 1)

-- the order at a place
abbrev pub sent_at_place : List Sent → ℕ → Sent
sent_at_place register i = get_or register i no_sent
