-- Bytes, the pieces of a text between separators, names and numbers, as lists. Assumes nothing.
use Rattle.std.specs.Prelude.{ℕ, zero, suc, ◌+◌, ◌-◌, ◌*◌, ◌^◌, Bool, true, cond, ◌&&◌, ◌||◌, List, [], ◌∷◌, length, get_or, eqb, leb, Option, Some, None}
use Prim.Native.Char.{code}
use Prim.Native.String.{String, [] as nothing, ◌∷◌ as then}

-- the bytes of a text of ASCII letters
abbrev pub bytes : String → List ℕ
bytes nothing = []
bytes (then c s) = code c ∷ bytes s

-- whether every byte has a property
unfoldable pub all : (ℕ → Bool) → List ℕ → Bool
all p [] = true
all p (x ∷ xs) = p x && all p xs

-- the pieces with x in front of the first of them
unfoldable pub onto : ℕ → List (List ℕ) → List (List ℕ)
onto x [] = (x ∷ []) ∷ []
onto x (p ∷ ps) = (x ∷ p) ∷ ps

-- the pieces of a text that a separator b parts, where an empty text has the pieces `none`
unfoldable pub pieces : List (List ℕ) → ℕ → List ℕ → List (List ℕ)
pieces none b [] = none
pieces none b (x ∷ xs) = cond (eqb x b) ([] ∷ pieces none b xs) (onto x (pieces none b xs))

-- the lines of a text: each ends with LF, and the last may lack it, so nothing is no line
abbrev pub lines : List ℕ → List (List ℕ)
lines s = pieces [] 10 s

-- the fields of a line: commas part them, so nothing is one empty field
abbrev pub fields : List ℕ → List (List ℕ)
fields s = pieces ([] ∷ []) 44 s

-- field k of a line, from 0; an absent one reads as empty
abbrev pub field : List ℕ → ℕ → List ℕ
field s k = get_or (fields s) k []

-- how many bytes stand before the first b: all, if there is none
unfoldable pub index_of : ℕ → List ℕ → ℕ
index_of b [] = zero
index_of b (x ∷ xs) = cond (eqb x b) zero (suc (index_of b xs))

-- a decimal digit
abbrev pub is_digit : ℕ → Bool
is_digit x = leb 48 x && leb x 57

-- a digit or a capital letter
abbrev pub is_name_byte : ℕ → Bool
is_name_byte x = is_digit x || leb 65 x && leb x 90

-- least to most bytes, each with a property
unfoldable pub made : (ℕ → Bool) → ℕ → ℕ → List ℕ → Bool
made p least most s = leb least (length s) && leb (length s) most && all p s

-- least to most capitals or digits
abbrev pub is_name : ℕ → ℕ → List ℕ → Bool
is_name least most s = made is_name_byte least most s

-- 1 to 12 digits
abbrev pub is_number : List ℕ → Bool
is_number s = made is_digit 1 12 s

-- what bytes stand for in a base, where the byte `naught` is nothing: each counts the base to the number of bytes after it
unfoldable pub numeral : ℕ → ℕ → List ℕ → ℕ
numeral base naught [] = 0
numeral base naught (x ∷ xs) = (x - naught) * base ^ length xs + numeral base naught xs

-- the number that decimal digits stand for
abbrev pub value : List ℕ → ℕ
value s = numeral 10 48 s

-- a name held in one number
abbrev pub name_number : List ℕ → ℕ
name_number s = numeral 256 0 s

-- a field of digits as its number
unfoldable pub field_number : List ℕ → Option ℕ
field_number f = cond (is_number f) (Some (value f)) None

-- a field that holds a name as that name's number
unfoldable pub name_of : ℕ → ℕ → List ℕ → Option ℕ
name_of least most f = cond (is_name least most f) (Some (name_number f)) None
