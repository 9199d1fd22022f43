-- The table of the kinds as two lists of numbers, and the table of the old form. Assumes nothing.
use Rattle.std.specs.Prelude.{ℕ, Bool, true, false, ◌&&◌, List, [], ◌∷◌}
use Rattle.measures.specs.Ranges.{◌to◌, is_in, times, roots, units, premiums, offers}
use Rattle.records.specs.Kinds.{Use, none, within}

-- the least that uses allow at each place, and the most: 0 where a field is not used
unfoldable pub least_fields : List Use → List ℕ
least_fields [] = []
least_fields (none ∷ uses) = 0 ∷ least_fields uses
least_fields (within r ∷ uses) = r.least ∷ least_fields uses

unfoldable pub most_fields : List Use → List ℕ
most_fields [] = []
most_fields (none ∷ uses) = 0 ∷ most_fields uses
most_fields (within r ∷ uses) = r.most ∷ most_fields uses

-- numbers are as many as there are least and most, and each lies between its own
unfoldable pub are_between : List ℕ → List ℕ → List ℕ → Bool
are_between [] [] [] = true
are_between [] [] (n ∷ v) = false
are_between [] (b ∷ high) v = false
are_between (a ∷ low) [] v = false
are_between (a ∷ low) (b ∷ high) [] = false
are_between (a ∷ low) (b ∷ high) (n ∷ v) = is_in (a to b) n && are_between low high v

-- by its kind, the uses of a 12-byte record's other fields: time, root, unit, premium, contracts, reset, level, spare
unfoldable pub uses12 : List (List Use)
uses12 =
    (within times ∷ within roots ∷ none ∷ none ∷ none ∷ within (0 to 3) ∷ none ∷ none ∷ [])
    ∷ (within times ∷ within roots ∷ within units ∷ within premiums ∷ within offers ∷ none ∷ none ∷ none ∷ [])
    ∷ (within times ∷ within roots ∷ none ∷ none ∷ none ∷ none ∷ within (0 to 1) ∷ none ∷ [])
    ∷ []
