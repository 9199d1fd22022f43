-- An event counted in an account: which numbers change, and when every figure of the account is at most 10^18 again. Assumes nothing.
use Prim.Native.Nat.{ℕ, suc, ◌+◌, ◌*◌, ◌≤◌, ◌<◌}
use mathlib.Core.Path.{◌≡◌, refl, sym, ap, ◌∙◌, subst}
use mathlib.Core.Bool.{Bool, true, false, ◌&&◌, and_assoc}
use mathlib.Core.List.{List, [], ◌∷◌, ◌++◌}
use native.Mathlib.Omega.{arith}
use lib.ListN.{length, get_or, take, drop, set}
use lib.Seq.{take-take, sets, sets-eq, length-sets, length-take-le, take-set-lt, get_or-set_other}
use lib.Dec.{leb}
use borrow.Author.Tests.{le-leb}
use Rattle.laws.specs.Folds.{every}
use Rattle.laws.proofs.Every.{every_take, every_drop}
use Rattle.laws.proofs.Lists.{ended}
use Rattle.laws.proofs.Tests.{and_i}
use Rattle.rules.specs.declared.Level.{Level}
use Rattle.rules.specs.declared.Level.TheVariants.{Firm, Root}
use Rattle.figures.specs.declared.Figures.{Figures}
use Rattle.figures.specs.declared.Happening.{Happening}
use Rattle.figures.specs.declared.Happening.TheVariants.{Uncounted}
use Rattle.figures.specs.Figures.{happening_root, figures_of, plus, row_numbers}
use Rattle.figures.specs.Account.{account_size, most, row_place, row_at, row_added, account_after, is_account}
use Rattle.figures.specs.Inner.Rows.{AtMost, Counting, greatest_of}
use Rattle.figures.proofs.Bounds.{added_most, row_under, row-most, nothing-added, added-most, at-most-more, sum-within}
use Rattle.figures.proofs.Greatests.{greatest-most}

-- no figure of a row is above 10^18
abbrev pub is_within : List ℕ → Bool
is_within xs = every (λ n. leb n most) xs

and-true : (b : Bool) → (b && true) ≡ b
and-true true = refl
and-true false = refl

module _ (ok : ℕ → Bool) where
  every-both : (xs ys : List ℕ) → every ok (xs ++ ys) ≡ (every ok xs && every ok ys)
  unfolding every
  every-both [] ys = refl
  every-both (x ∷ xs) ys = ap (λ (b : Bool). ok x && b) (every-both xs ys) ∙ sym (and_assoc (ok x) (every ok xs) (every ok ys))

  -- numbers written over some others
  every-sets : (vs l : List ℕ) (at : ℕ) → at + length vs ≤ length l
      → every ok (sets l at vs) ≡ ((every ok (take at l) && every ok vs) && every ok (drop (at + length vs) l))
  every-sets vs l at h =
      ap (every ok) (sets-eq vs l at h) ∙ every-both (take at l ++ vs) (drop (at + length vs) l)
      ∙ ap (λ (b : Bool). b && every ok (drop (at + length vs) l)) (every-both (take at l) vs)

  -- where all others pass, those written decide
  every-written : (vs l : List ℕ) (at : ℕ) → at + length vs ≤ length l → every ok l ≡ true → every ok (sets l at vs) ≡ every ok vs
  every-written vs l at h e =
      every-sets vs l at h ∙ ap (λ (b : Bool). (b && every ok vs) && every ok (drop (at + length vs) l)) (every_take ok l at e)
      ∙ ap (λ (b : Bool). every ok vs && b) (every_drop ok l (at + length vs) e) ∙ and-true (every ok vs)

-- the front of a list in which numbers were written
take-sets : (n : ℕ) (vs l : List ℕ) (at : ℕ) → at + length vs ≤ n → take n (sets l at vs) ≡ sets (take n l) at vs
take-sets n [] l at h = refl
take-sets n (v ∷ vs) l at h =
    take-sets n vs (set l at v) (suc at) (omega arith) ∙ ap (λ (r : List ℕ). sets r (suc at) vs) (take-set-lt n l at v (omega arith))

-- numbers past those written stay
get_d-sets-after : (vs l : List ℕ) (at i : ℕ) → at + length vs ≤ i → get_or (sets l at vs) i 0 ≡ get_or l i 0
get_d-sets-after [] l at i h = refl
get_d-sets-after (v ∷ vs) l at i h =
    get_d-sets-after vs (set l at v) (suc at) i (omega arith) ∙ get_or-set_other l at i v 0 (λ e. omega arith)

pub row-after : (vs l : List ℕ) (at place : ℕ) → at + length vs ≤ place → row_at (sets l at vs) place ≡ row_at l place
unfolding row_at
row-after vs l at place h = λ i. record {
  accepted = get_d-sets-after vs l at place h i;
  rejected = get_d-sets-after vs l at (place + 1) (omega arith) i;
  fills = record { 0 = get_d-sets-after vs l at (place + 2) (omega arith) i };
  contracts = record { 0 = get_d-sets-after vs l at (place + 3) (omega arith) i };
  notional = record { 0 = get_d-sets-after vs l at (place + 4) (omega arith) i };
  cuts = get_d-sets-after vs l at (place + 5) (omega arith) i;
  trips = get_d-sets-after vs l at (place + 6) (omega arith) i;
  away = get_d-sets-after vs l at (place + 7) (omega arith) i;
}

-- two rows written, the second at the end of an account
two-rows : (xs : List ℕ) (at : ℕ) (v w : List ℕ) → length v ≡ 8 → length w ≡ 8 → at + 8 ≤ 512 → 520 ≤ length xs → is_account xs ≡ true
    → is_within (take 520 (sets (sets xs at v) 512 w)) ≡ (is_within v && is_within w)
unfolding is_account every
two-rows xs at v w lv lw low long is =
    ap is_within (take-sets 520 w ys 512 (omega arith)) ∙ every-sets ok w front 512 (omega (arith, front_long))
    ∙ ap (λ (l : List ℕ). (is_within (take 512 front) && is_within w) && is_within l) (ended front (512 + length w) (omega (arith, front_long)))
    ∙ and-true (is_within (take 512 front) && is_within w)
    ∙ ap (λ (b : Bool). b && is_within w) (ap is_within (take-take 512 520 ys (omega arith)) ∙ ap is_within (take-sets 512 v xs at (omega arith)) ∙ own)
  where
    ok : ℕ → Bool
    ok n = leb n most

    ys : List ℕ
    ys = sets xs at v

    front : List ℕ
    front = take 520 ys

    front_long : length front ≡ 520
    front_long = length-take-le 520 ys (omega (arith, length-sets xs at v))

    own : is_within (sets (take 512 xs) at v) ≡ is_within v
    own =
        every-written ok v (take 512 xs) at (omega (arith, length-take-le 512 xs (omega arith)))
        (subst (λ (l : List ℕ). is_within l ≡ true) (take-take 512 520 xs (omega arith)) (every_take ok (take 520 xs) 512 is))

-- a row that has figures added to it
abbrev pub put : List ℕ → ℕ → Figures → List ℕ
put xs at f = sets xs at (row_numbers (plus (row_at xs at) f))

abbrev pub sum_at : List ℕ → ℕ → Figures → List ℕ
sum_at xs at f = row_numbers (plus (row_at xs at) f)

row-long : (f : Figures) → length (row_numbers f) ≡ 8
unfolding row_numbers
row-long f = refl

pub figures-within : {xs : List ℕ} {h : Happening} (level : Level) {f : Figures} → Counting xs h → f ≡ figures_of level h → AtMost most f
figures-within {xs} {h} level c e = subst (AtMost most) (sym e) (at-most-more (omega arith) (added-most level h c.priced))

module _ {xs : List ℕ} {h : Happening} (c : Counting xs h) where
  pub firm-most : AtMost most (row_at xs 512)
  firm-most = row-most xs c.long c.account 512 (omega arith)

  module _ {root : ℕ} (is : root ≡ happening_root h) where
    low : root < 64
    low = omega (arith, is, c.root)

    pub own-place : root * 8 + 8 ≤ length xs
    own-place = omega (arith, low, c.long)

    pub own-most : AtMost most (row_at xs (root * 8))
    own-most = row-most xs c.long c.account (root * 8) (omega (arith, low))

  -- the account after the first of the two rows
  module _ (root : ℕ) (f : Figures) {ys : List ℕ} (first : ys ≡ put xs (root * 8) f) where
    pub after-long : 520 ≤ length ys
    after-long = omega (arith, ap length first ∙ length-sets xs (root * 8) (sum_at xs (root * 8) f), c.long)

    firm-same : root ≡ happening_root h → row_at ys 512 ≡ row_at xs 512
    firm-same is =
        ap (λ (zs : List ℕ). row_at zs 512) first
        ∙ row-after (sum_at xs (root * 8) f) xs (root * 8) 512 (omega (arith, low is, row-long (plus (row_at xs (root * 8)) f)))

    pub after-most : root ≡ happening_root h → AtMost most (row_at ys 512)
    after-most is = subst (AtMost most) (sym (firm-same is)) firm-most

-- the two rows are written one after the other
pub counted-after : (xs : List ℕ) (h : Happening) {root : ℕ} {f g : Figures} {ys : List ℕ} → ys ≡ put xs (root * 8) f → root ≡ happening_root h
    → f ≡ figures_of (Root root) h → g ≡ figures_of Firm h → put ys 512 g ≡ account_after h xs
unfolding account_after row_added row_place
counted-after xs h first is own firm = rw (first, own, firm, is)

-- every figure is at most 10^18 again exactly if those of the two rows are
pub fits-exactly : {xs : List ℕ} {h : Happening} (c : Counting xs h) {root : ℕ} {f g : Figures} → root ≡ happening_root h → f ≡ figures_of (Root root) h
    → g ≡ figures_of Firm h → (is_within (sum_at xs (root * 8) f) && is_within (sum_at xs 512 g)) ≡ is_account (account_after h xs)
unfolding is_account
fits-exactly {xs} {h} c {root} {f} {g} is own firm =
    let ys = put xs (root * 8) f in
    sym
    (ap (λ (zs : List ℕ). is_within (take 520 zs)) (sym (counted-after xs h refl is own firm))
    ∙ two-rows xs (root * 8) (sum_at xs (root * 8) f) (sum_at ys 512 g) (row-long (plus (row_at xs (root * 8)) f)) (row-long (plus (row_at ys 512) g))
    (omega (arith, low c is)) c.long c.account
    ∙ ap (λ (row : Figures). is_within (sum_at xs (root * 8) f) && is_within (row_numbers (plus row g))) (firm-same c root f refl is))

-- an account with room for whatever an event adds, and an event that adds nothing
module _ {xs : List ℕ} {h : Happening} (c : Counting xs h) where
  roomy : {j k : ℕ} → j + k ≤ most → AtMost j (row_at xs (happening_root h * 8)) → AtMost j (row_at xs 512) → ((level : Level) → AtMost k (figures_of level h))
      → is_account (account_after h xs) ≡ true
  roomy r own firm f =
      sym (fits-exactly c {root = happening_root h} refl refl refl)
      ∙ and_i (sum-within own (f (Root (happening_root h))) r) (sum-within firm (f Firm) r)

  pub room_fits : (m : ℕ) → m + added_most ≤ most → greatest_of (take account_size xs) ≤ m → is_account (account_after h xs) ≡ true
  room_fits m r g =
      let under = sym (greatest-most m (take account_size xs)) ∙ le-leb (greatest_of (take account_size xs)) m g in
      let few = row_under xs c.long m under in
      roomy r (few (happening_root h * 8) (omega (arith, c.root))) (few 512 (omega arith)) (λ level. added-most level h c.priced)

pub nothing-fits : (xs : List ℕ) → account_size ≤ length xs → is_account xs ≡ true → is_account (account_after Uncounted xs) ≡ true
unfolding happening_root
nothing-fits xs long is =
    let c : Counting xs Uncounted = record { long = long; account = is; root = omega arith; priced = tt } in
    let row = row-most xs long is in
    roomy c (omega arith) (row 0 (omega arith)) (row 512 (omega arith)) nothing-added
