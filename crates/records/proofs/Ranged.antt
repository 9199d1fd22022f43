-- A kind's uses as the least and the most of each field: testing against both is what the table asks. Assumes nothing.
use Prim.Native.Nat.{ℕ, zero, suc, ◌≤◌, ◌<◌, zero-le}
use mathlib.Core.Path.{◌≡◌, refl, ap, ap₂, ◌∙◌}
use mathlib.Core.Bool.{Bool, true, false, cond, not, ◌&&◌, ◌||◌, and-false, false≢true}
use mathlib.Core.List.{List, [], ◌∷◌}
use native.Mathlib.Nat.{zero-lt-suc}
use native.Mathlib.Omega.{arith}
use lib.ListN.{length, get_or, drop, drop_of_length-le}
use lib.Seq.{drop-cons}
use lib.Dec.{eqb, leb}
use borrow.Author.Tests.{le-leb, lt-leb, leb-true, leb-false, eqb-true, eqb-false, eq-eqb, ne_eqb}
use Rattle.measures.specs.Ranges.{◌to◌, is_in}
use Rattle.laws.proofs.Tests.{and_l, and_r, and-on}
use Rattle.records.specs.Kinds.{Use, none, within, uses16, is_used, are_used, are_fields}
use Rattle.records.specs.Inner.Ranges.{least_fields, most_fields, are_between, uses12}

zero_in : (n : ℕ) → is_in (0 to 0) n ≡ eqb n 0
zero_in zero = refl
zero_in (suc n) = rw (lt-leb (suc n) 0 (zero-lt-suc n), ne_eqb (suc n) 0 (λ e. omega arith)) (and-false (leb 0 (suc n)))

-- numbers lie between the least and the most of uses exactly if they are what the uses allow
between-used : (us : List Use) (v : List ℕ) → are_between (least_fields us) (most_fields us) v ≡ are_used us v
unfolding least_fields most_fields are_between are_used is_used
between-used [] [] = refl
between-used [] (n ∷ v) = refl
between-used (none ∷ us) [] = refl
between-used (within r ∷ us) [] = refl
between-used (none ∷ us) (n ∷ v) = ap₂ (λ (x y : Bool). x && y) (zero_in n) (between-used us v)
between-used (within r ∷ us) (n ∷ v) = ap (λ (x : Bool). is_in r n && x) (between-used us v)

-- a number above the most of its place does not
above_most : (least most : List ℕ) (k : ℕ) (v : List ℕ) → get_or most 0 0 < k → are_between least most (k ∷ v) ≡ false
unfolding are_between
above_most [] [] k v h = refl
above_most [] (b ∷ high) k v h = refl
above_most (a ∷ low) [] k v h = refl
above_most (a ∷ low) (b ∷ high) k v h = rw (lt-leb k b h, and-false (leb a k))

-- a field that is not used is 0
unused : (us : List Use) (v : List ℕ) (i : ℕ) → are_used us v ≡ true → get_or us i none ≡ none → get_or v i 0 ≡ 0
unfolding are_used is_used
unused [] [] i h e = refl
unused [] (n ∷ v) i h e = absurd (false≢true h)
unused (u ∷ us) [] i h e = refl
unused (none ∷ us) (n ∷ v) zero h e = eqb-true n 0 (and_l (eqb n 0) (are_used us v) h)
unused (within r ∷ us) (n ∷ v) zero h e = absurd (let z : ◌≡◌ {A = ℕ} 0 1 = cc in omega arith)
unused (u ∷ us) (n ∷ v) (suc i) h e = unused us v i (and_r (is_used u n) (are_used us v) h) e

-- a table of kinds up to `last`, in which lockouts alone have a level
pub record Kinds (uses : List (List Use)) (last : ℕ) : Type 0 where
  pub level : (k : ℕ) → k ≤ last → (k ≡ 2 → ⊥) → get_or (get_or uses k []) 6 none ≡ none
  pub ends : (k : ℕ) → last < k → get_or uses k [] ≡ []

-- whether root or level is 0
abbrev alone : List ℕ → Bool
alone v = eqb (get_or v 7 0) 0 || eqb (get_or v 2 0) 0

-- by the least and the most of the kind's row, and root or level 0 whatever the kind, fields are tested as the table says
pub tested : {uses : List (List Use)} {last : ℕ} → Kinds uses last → (v least most : List ℕ) → 1 < length v
    → (get_or v 0 0 ≤ last → least ≡ 0 ∷ least_fields (get_or uses (get_or v 0 0) [])) → get_or most 0 0 ≡ last
    → (get_or v 0 0 ≤ last → most ≡ last ∷ most_fields (get_or uses (get_or v 0 0) [])) → (are_between least most v && alone v) ≡ are_fields uses v
unfolding are_between are_fields are_used
tested ks [] least most h l m n = absurd (let z : 1 < 0 = h in omega arith)
tested ks (k ∷ []) least most h l m n = absurd (let z : 1 < 1 = h in omega arith)
tested {uses} {last} ks (k ∷ x ∷ w) least most h l m n = go (leb k last) refl
  where
    row : List Use
    row = get_or uses k []

    here : k ≤ last → are_between least most (k ∷ x ∷ w) ≡ are_used row (x ∷ w)
    here f = ap₂ (λ (a b : List ℕ). are_between a b (k ∷ x ∷ w)) (l f) (n f) ∙ rw (le-leb 0 k zero-le, le-leb k last f) (between-used row (x ∷ w))

    free : k ≤ last → are_used row (x ∷ w) ≡ true → (t : Bool) → eqb k 2 ≡ t → alone (k ∷ x ∷ w) ≡ (not t || alone (k ∷ x ∷ w))
    free f u true e = refl
    free f u false e = rw (eq-eqb (get_or w 5 0) 0 (unused row (x ∷ w) 6 u (ks.level k f (eqb-false k 2 e))))

    go : (t : Bool) → leb k last ≡ t → (are_between least most (k ∷ x ∷ w) && alone (k ∷ x ∷ w)) ≡ are_fields uses (k ∷ x ∷ w)
    go true e =
        let f = leb-true k last e in
        ap (λ (b : Bool). b && alone (k ∷ x ∷ w)) (here f) ∙ and-on (are_used row (x ∷ w)) (λ u. free f u (eqb k 2) refl)
    go false e =
        let f = leb-false k last e in
        rw (above_most least most k (x ∷ w) (rw m f), ks.ends k f)

-- the two tables
pub kinds12 : Kinds uses12 2
unfolding uses12
kinds12 = record { level = level; ends = ends }
  where
    level : (k : ℕ) → k ≤ 2 → (k ≡ 2 → ⊥) → get_or (get_or uses12 k []) 6 none ≡ none
    level zero f g = refl
    level (suc zero) f g = refl
    level (suc (suc zero)) f g = absurd (g refl)
    level (suc (suc (suc k))) f g = absurd (omega arith)

    ends : (k : ℕ) → 2 < k → get_or uses12 k [] ≡ []
    ends zero f = absurd (omega arith)
    ends (suc zero) f = absurd (omega arith)
    ends (suc (suc zero)) f = absurd (omega arith)
    ends (suc (suc (suc k))) f = refl

pub kinds16 : Kinds uses16 5
unfolding uses16
kinds16 = record { level = level; ends = ends }
  where
    level : (k : ℕ) → k ≤ 5 → (k ≡ 2 → ⊥) → get_or (get_or uses16 k []) 6 none ≡ none
    level zero f g = refl
    level (suc zero) f g = refl
    level (suc (suc zero)) f g = absurd (g refl)
    level (suc (suc (suc zero))) f g = refl
    level (suc (suc (suc (suc zero)))) f g = refl
    level (suc (suc (suc (suc (suc zero))))) f g = refl
    level (suc (suc (suc (suc (suc (suc k)))))) f g = absurd (omega arith)

    ends : (k : ℕ) → 5 < k → get_or uses16 k [] ≡ []
    ends zero f = absurd (omega arith)
    ends (suc zero) f = absurd (omega arith)
    ends (suc (suc zero)) f = absurd (omega arith)
    ends (suc (suc (suc zero))) f = absurd (omega arith)
    ends (suc (suc (suc (suc zero)))) f = absurd (omega arith)
    ends (suc (suc (suc (suc (suc zero))))) f = absurd (omega arith)
    ends (suc (suc (suc (suc (suc (suc k)))))) f = refl

-- the code's least and most at each kind are those of its row
pub least-row : (k : ℕ) → k ≤ 2 → let one : ℕ = cond (eqb k 1) 1 0 in 0 ∷ 0 ∷ 0 ∷ 0 ∷ one ∷ one ∷ 0 ∷ 0 ∷ 0 ∷ [] ≡ 0 ∷ least_fields (get_or uses12 k [])
unfolding least_fields uses12
least-row zero f = refl
least-row (suc zero) f = refl
least-row (suc (suc zero)) f = refl
least-row (suc (suc (suc k))) f = absurd (omega arith)

pub most-row : (k : ℕ) → k ≤ 2
    → let trades = eqb k 1 in
    2 ∷ 86_399_999 ∷ 63 ∷ cond trades 3 0 ∷ cond trades 100_000_000 0 ∷ cond trades 1_000_000 0 ∷ cond (eqb k 0) 3 0 ∷ cond (eqb k 2) 1 0 ∷ 0 ∷ []
    ≡ 2 ∷ most_fields (get_or uses12 k [])
unfolding most_fields uses12
most-row zero f = refl
most-row (suc zero) f = refl
most-row (suc (suc zero)) f = refl
most-row (suc (suc (suc k))) f = absurd (omega arith)

pub least16-row : (k : ℕ) → k ≤ 5
    → let trades = eqb k 1 || eqb k 3 in
    0 ∷ 0 ∷ 0 ∷ 0 ∷ cond trades 1 0 ∷ cond (trades || eqb k 4) 1 0 ∷ 0 ∷ 0 ∷ 0 ∷ cond (eqb k 3) 1 0 ∷ 0 ∷ [] ≡ 0 ∷ least_fields (get_or uses16 k [])
unfolding least_fields uses16
least16-row zero f = refl
least16-row (suc zero) f = refl
least16-row (suc (suc zero)) f = refl
least16-row (suc (suc (suc zero))) f = refl
least16-row (suc (suc (suc (suc zero)))) f = refl
least16-row (suc (suc (suc (suc (suc zero))))) f = refl
least16-row (suc (suc (suc (suc (suc (suc k)))))) f = absurd (omega arith)

pub most16-row : (k : ℕ) → k ≤ 5
    → let trades = eqb k 1 || eqb k 3 in
    5 ∷ 86_399_999_999 ∷ cond (leb k 3) 63 0 ∷ cond trades 3 0 ∷ cond trades 100_000_000 0 ∷ cond (trades || eqb k 4) 1_000_000 0
    ∷ cond (eqb k 0) 6 0 ∷ cond (eqb k 2) 1 0 ∷ cond (leb 3 k) 65_535 0 ∷ cond (eqb k 3) 16 0 ∷ 0 ∷ []
    ≡ 5 ∷ most_fields (get_or uses16 k [])
unfolding most_fields uses16
most16-row zero f = refl
most16-row (suc zero) f = refl
most16-row (suc (suc zero)) f = refl
most16-row (suc (suc (suc zero))) f = refl
most16-row (suc (suc (suc (suc zero)))) f = refl
most16-row (suc (suc (suc (suc (suc zero))))) f = refl
most16-row (suc (suc (suc (suc (suc (suc k)))))) f = absurd (omega arith)

-- the loop over the places: what was tested so far, and what is left
abbrev pub left : List ℕ → List ℕ → List ℕ → ℕ → Bool
left least most v i = are_between (drop i least) (drop i most) (drop i v)

pub left-on : (least most v : List ℕ) (i : ℕ) → length least ≡ length v → length most ≡ length v → i < length v
    → left least most v i ≡ (is_in (get_or least i 0 to get_or most i 0) (get_or v i 0) && left least most v (suc i))
unfolding are_between
left-on least most v i e f h = rw (drop-cons least i 0 (omega arith), drop-cons most i 0 (omega arith), drop-cons v i 0 h)

pub left-none : (least most v : List ℕ) (i : ℕ) → length least ≡ length v → length most ≡ length v → length v ≤ i → left least most v i ≡ true
unfolding are_between
left-none least most v i e f h = rw (drop_of_length-le least {i = i} (omega arith), drop_of_length-le most {i = i} (omega arith), drop_of_length-le v h)
