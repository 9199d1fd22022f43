-- Numbers as digits: those of a number in a base, the bytes of a name that a number holds, and a number in decimal digits. Assumes nothing.
use Rattle.std.specs.Prelude.{ℕ, zero, suc, ◌+◌, ◌/◌, ◌%◌, cond, List, [], ◌∷◌, ◌++◌, map, eqb}

-- the digits of a number in a base, most significant first, none in front that is 0, and at most so many
unfoldable pub digits_up_to : ℕ → ℕ → ℕ → List ℕ
digits_up_to base zero n = []
digits_up_to base (suc most) n = cond (eqb n 0) [] (digits_up_to base most (n / base) ++ ((n % base) ∷ []))

-- the bytes of the name that a number of 64 bits holds
unfoldable pub name_bytes : ℕ → List ℕ
name_bytes n = digits_up_to 256 8 n

-- a number of 64 bits in decimal digits: those of its tenth, none in front that is 0, then its last one
unfoldable pub decimal : ℕ → List ℕ
decimal n = map (λ d. d + 48) (digits_up_to 10 19 (n / 10) ++ ((n % 10) ∷ []))
