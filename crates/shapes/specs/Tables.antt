-- Places of w numbers each, one after the other, over any record. Assumes nothing.
use Rattle.std.specs.Prelude.{ℕ, zero, suc, Bool, true, ◌&&◌, List, [], ◌∷◌, ◌++◌, drop, replicate, eqb}

-- n numbers, all 0
unfoldable pub zeros : ℕ → List ℕ
zeros n = replicate n 0

-- every number is 0
unfoldable pub all_zero : List ℕ → Bool
all_zero [] = true
all_zero (x ∷ xs) = eqb x 0 && all_zero xs

module _ {A : Type 0} where
  -- the numbers of the records, one record after the other
  unfoldable pub flat : (A → List ℕ) → List A → List ℕ
  flat enc [] = []
  flat enc (r ∷ rs) = enc r ++ flat enc rs

  -- the records that stand in the first n places
  unfoldable pub places : ℕ → (List ℕ → A) → ℕ → List ℕ → List A
  places w dec zero xs = []
  places w dec (suc n) xs = dec xs ∷ places w dec n (drop w xs)

-- each of the first k places of w numbers passes a test
unfoldable pub places_pass : ℕ → (List ℕ → Bool) → ℕ → List ℕ → Bool
places_pass w test zero xs = true
places_pass w test (suc k) xs = test xs && places_pass w test k (drop w xs)
