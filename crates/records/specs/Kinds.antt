-- The fields of a 16-byte record kind by kind, as one table. Assumes nothing.
use Rattle.std.specs.Prelude.{ℕ, Bool, true, false, not, ◌&&◌, ◌||◌, List, [], ◌∷◌, length, get_or, drop, eqb}
use Rattle.measures.specs.Ranges.{Range, ◌to◌, is_in, roots, units, premiums, offers, identities, reports_asked}
use Rattle.bits.specs.Fields.{fields_of}
use Rattle.records.specs.Event16.{bytes16, widths16, stamps}

-- a kind does not use a field, or uses it within a range
pub data Use : Type 0 where
  none : Use
  within : Range → Use

-- by its kind, the uses of a record's other fields: time, root, unit, premium, contracts, reset, level, identity, reports, spare
unfoldable pub uses16 : List (List Use)
uses16 =
    (within stamps ∷ within roots ∷ none ∷ none ∷ none ∷ within (0 to 6) ∷ none ∷ none ∷ none ∷ none ∷ [])
    ∷ (within stamps ∷ within roots ∷ within units ∷ within premiums ∷ within offers ∷ none ∷ none ∷ none ∷ none ∷ none ∷ [])
    ∷ (within stamps ∷ within roots ∷ none ∷ none ∷ none ∷ none ∷ within (0 to 1) ∷ none ∷ none ∷ none ∷ [])
    ∷ (within stamps ∷ within roots ∷ within units ∷ within premiums ∷ within offers ∷ none ∷ none ∷ within identities ∷ within reports_asked ∷ none ∷ [])
    ∷ (within stamps ∷ none ∷ none ∷ none ∷ within offers ∷ none ∷ none ∷ within identities ∷ none ∷ none ∷ [])
    ∷ (within stamps ∷ none ∷ none ∷ none ∷ none ∷ none ∷ none ∷ within identities ∷ none ∷ none ∷ [])
    ∷ []

-- whether a number is what a use allows: 0 where the field is not used
unfoldable pub is_used : Use → ℕ → Bool
is_used none n = eqb n 0
is_used (within r) n = is_in r n

-- numbers are as many as uses, and each is what its use allows
unfoldable pub are_used : List Use → List ℕ → Bool
are_used [] [] = true
are_used [] (n ∷ v) = false
are_used (u ∷ uses) [] = false
are_used (u ∷ uses) (n ∷ v) = is_used u n && are_used uses v

-- whether fields are a record's by such a table: the kind has a row, the others are what it allows, and a lockout's root is 0 at level 1
unfoldable pub are_fields : List (List Use) → List ℕ → Bool
are_fields uses v =
    are_used (get_or uses (get_or v 0 0) []) (drop 1 v) && (not (eqb (get_or v 0 0) 2) || (eqb (get_or v 7 0) 0 || eqb (get_or v 2 0) 0))

-- whether bytes are a record: as many as it has, with fields that are a record's
abbrev pub is_record16 : List ℕ → Bool
is_record16 s = eqb (length s) bytes16 && are_fields uses16 (fields_of widths16 s)
