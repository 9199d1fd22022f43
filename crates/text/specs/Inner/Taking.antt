-- What the functions answer that read the fields of a line where they stand. Assumes nothing.
use Rattle.std.specs.Prelude.{ℕ, zero, suc, ◌+◌, ◌-◌, ◌/◌, ◌%◌, ◌≤◌, ◌<◌, ◌≡◌, Bool, true, false, cond, List, [], ◌∷◌, ◌++◌, length, Option, Some, None}
use denote.Ref.{Bor}
use Rattle.text.specs.Text.{fields, made, numeral}

-- the fields that are left of a line: none where nothing is
abbrev pub fields_in : Option (Bor (List ℕ)) → List (List ℕ)
fields_in None = []
fields_in (Some rest) = fields rest.now

-- the bytes in front that have a property
unfoldable pub front : (ℕ → Bool) → List ℕ → List ℕ
front p [] = []
front p (x ∷ xs) = cond (p x) (x ∷ front p xs) []

-- what the bytes in front with a property stand for in a base, and how many they are
unfoldable pub run_read : (ℕ → Bool) → ℕ → ℕ → List ℕ → ℕ × ℕ
run_read p base naught s = (numeral base naught (front p s), length (front p s))

-- what a field of least to most bytes, each with the property p, is read as
unfoldable pub read_as : (ℕ → Bool) → ℕ → ℕ → ℕ → ℕ → List ℕ → Option ℕ
read_as p least most base naught f = cond (made p least most f) (Some (numeral base naught f)) None

-- bytes that are digits stand for numbers below the base, which one byte holds, and no comma is one
pub record AreDigits (p : ℕ → Bool) (base naught : ℕ) : Type 0 where
  pub low : (x : ℕ) → p x ≡ true → naught ≤ x
  pub high : (x : ℕ) → p x ≡ true → x - naught < base
  pub some : 0 < base
  pub byte : base + naught ≤ 256
  pub comma : p 44 ≡ false

-- the last k digits of a number in a base, each as the byte that stands for it
unfoldable pub last_digits : ℕ → ℕ → ℕ → ℕ → List ℕ
last_digits base naught zero n = []
last_digits base naught (suc k) n = last_digits base naught k (n / base) ++ ((n % base + naught) ∷ [])
