-- Texts with their lines and fields, and as a number and as a name, as one table under one theorem; numbers with their decimal digits, and with the
-- bytes of the name that they hold. Assumes nothing.
use Prim.Native.Nat.{ℕ}
use Prim.Native.String.{String}
use mathlib.Core.Path.{◌≡◌, refl}
use mathlib.Core.List.{List, [], ◌∷◌, map}
use Rattle.text.specs.Text.{bytes, all, onto, pieces, lines, fields, made, numeral, field_number, name_of}
use Rattle.text.specs.Digits.{digits_up_to, name_bytes, decimal}
use Rattle.std.specs.Prelude.{Option, Some, None}

record Row : Type 0 where
  text : String
  lines : List (List ℕ)
  fields : List (List ℕ)
  number : Option ℕ
  name : Option ℕ

-- what the definitions say of a text, with names of up to 8 bytes
abbrev read : String → Row
read t = record { text = t; lines = lines (bytes t); fields = fields (bytes t); number = field_number (bytes t); name = name_of 0 8 (bytes t) }

abbrev row : String → List String → List String → Option ℕ → Option ℕ → Row
row t ls fs n m = record { text = t; lines = map bytes ls; fields = map bytes fs; number = n; name = m }

-- a text that is no number and no name
abbrev text : String → List String → List String → Row
text t ls fs = row t ls fs None None

-- a text that is one line and one field
abbrev word : String → Option ℕ → Option ℕ → Row
word t n m = row t (t ∷ []) (t ∷ []) n m

abbrev rows : List Row
rows =
    row "" [] ("" ∷ []) None (Some 0)
    ∷ text "\n" ("" ∷ []) ("\n" ∷ [])
    ∷ text "a\n" ("a" ∷ []) ("a\n" ∷ [])
    ∷ text "a\n\n" ("a" ∷ "" ∷ []) ("a\n\n" ∷ [])
    ∷ text "\na" ("" ∷ "a" ∷ []) ("\na" ∷ [])
    ∷ text "a,b\nc" ("a,b" ∷ "c" ∷ []) ("a" ∷ "b\nc" ∷ [])
    ∷ text "," ("," ∷ []) ("" ∷ "" ∷ [])
    ∷ text "a,b," ("a,b," ∷ []) ("a" ∷ "b" ∷ "" ∷ [])
    ∷ text ",,a" (",,a" ∷ []) ("" ∷ "" ∷ "a" ∷ [])
    ∷ word "x" None None
    ∷ word "T\r" None None
    ∷ word "0" (Some 0) (Some 48)
    ∷ word "007" (Some 7) (Some 0x303037)
    ∷ word "000000000009" (Some 9) None
    ∷ word "999999999999" (Some 999_999_999_999) None
    ∷ word "0000000000001" None None
    ∷ word "12a" None None
    ∷ word "-1" None None
    ∷ word "AB12" None (Some 0x41423132)
    ∷ word "ZZZZZZZZ" None (Some 0x5A5A5A5A5A5A5A5A)
    ∷ word "ABCDEFGHI" None None
    ∷ word "A B" None None
    ∷ []

right : map (λ r. read r.text) rows ≡ rows
unfolding all onto pieces made numeral field_number name_of
right = refl

-- numbers as they are written
written : map decimal (0 ∷ 9 ∷ 10 ∷ 100 ∷ 1009 ∷ 999_999_999_999 ∷ 18_446_744_073_709_551_615 ∷ [])
    ≡ map bytes ("0" ∷ "9" ∷ "10" ∷ "100" ∷ "1009" ∷ "999999999999" ∷ "18446744073709551615" ∷ [])
unfolding digits_up_to decimal
written = refl

named : map name_bytes (0 ∷ 0x41 ∷ 0x41423132 ∷ 0x5A5A5A5A5A5A5A5A ∷ []) ≡ map bytes ("" ∷ "A" ∷ "AB12" ∷ "ZZZZZZZZ" ∷ [])
unfolding digits_up_to name_bytes
named = refl
