-- The log read from its newest end: which entries a reading passes before it stops, and how many it looks at. Assumes nothing.
use Rattle.std.specs.Prelude.{ℕ, ◌+◌, Bool, cond, List, [], ◌∷◌, reverse, leb}
use Rattle.machine.specs.declared.Entry.{Entry}

module _ {A : Type 0} (test : A → Bool) where
  -- what a reading passes: all before the first that fails a test
  unfoldable pub passed : List A → List A
  passed [] = []
  passed (x ∷ xs) = cond (test x) (x ∷ passed xs) []

  -- how many it looks at: those that it passes, and the first that fails
  unfoldable pub looked : List A → ℕ
  looked [] = 0
  looked (x ∷ xs) = cond (test x) (looked xs + 1) 1

-- an entry is not before a time
abbrev pub is_since : ℕ → Entry → Bool
is_since first e = leb first e.time

-- the entries that a reading from the newest on passes, up to the first that is before a time
unfoldable pub newest : ℕ → List Entry → List Entry
newest first es = passed (is_since first) (reverse es)

-- how many entries that reading looks at
unfoldable pub looked_at : ℕ → List Entry → ℕ
looked_at first es = looked (is_since first) (reverse es)
