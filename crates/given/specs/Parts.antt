-- The tests of the roots', the rules' and the totals' places. Assumes nothing.
use Rattle.std.specs.Prelude.{ℕ, ◌*◌, Bool, true, false, ◌&&◌, List, [], ◌∷◌, get_or, take, drop, leb}
use Rattle.measures.specs.Ranges.{◌to◌, is_in}
use Rattle.rules.specs.Valid.{is_total_number}
use Rattle.rules.specs.declared.Rule.{Rule}
use Rattle.tables.specs.Inner.Tables.{all_zero, places, places_pass}
use Rattle.packing.specs.RulePlace.{rule_at, is_rule_place}
use Rattle.admission.specs.Admission.{are_in_order}
use Rattle.given.specs.Given.{are_roots}

-- the first n of the roots' places hold roots, and the others 0
unfoldable pub names_hold : ℕ → List ℕ → Bool
names_hold n xs = are_roots (take n xs) && all_zero (drop n xs)

-- the first k of the rules' places hold rules of n roots, in order, none too many, and the others 0
unfoldable pub places_hold : ℕ → ℕ → List ℕ → Bool
places_hold n k xs = places_pass 2 (is_rule_place n) k xs && are_in_order n [] 0 (places 2 rule_at k xs) && all_zero (drop (k * 2) xs)

-- how many places the totals have: one for each of four units of 256 rules
abbrev pub totals_size : ℕ
totals_size = 1024

-- each of these accounts has a total that its rule may have
unfoldable pub own_hold : List Rule → List ℕ → Bool
own_hold [] xs = true
own_hold (cell ∷ cells) [] = false
own_hold (cell ∷ cells) (x ∷ xs) = is_total_number cell x && own_hold cells xs

-- the totals' places hold the totals of these accounts, and the others 0
unfoldable pub totals_hold : List Rule → List ℕ → Bool
totals_hold [] xs = all_zero xs
totals_hold (rule ∷ rules) [] = false
totals_hold (rule ∷ rules) (x ∷ xs) = is_total_number rule x && totals_hold rules xs

-- the table of the roots, with its count in front: as many names as it says
unfoldable pub roots_hold : List ℕ → Bool
roots_hold xs = leb (get_or xs 0 0) 64 && names_hold (get_or xs 0 0) (take 64 (drop 1 xs))

-- the places of the rules' table, and its rules
abbrev pub places_of : List ℕ → List ℕ
places_of xs = take 512 (drop 1 xs)

abbrev pub rules_of : List ℕ → List Rule
rules_of xs = places 2 rule_at (get_or xs 0 0) (places_of xs)

-- the table of the rules: as many rules of n roots as it says, at least one, in order
unfoldable pub rules_hold : ℕ → List ℕ → Bool
rules_hold n xs = is_in (1 to 256) (get_or xs 0 0) && places_hold n (get_or xs 0 0) (places_of xs)
