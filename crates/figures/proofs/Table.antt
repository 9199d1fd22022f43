-- Laws of the account's rows: two rows added, a row written and read, and what an event does to every row. Assumes nothing.
use Prim.Native.Nat.{ℕ, zero, suc, ◌+◌, ◌*◌, ◌≤◌, ◌<◌}
use native.Mathlib.Nat.{add-zero}
use native.Mathlib.Omega.{arith}
use mathlib.Core.Path.{◌≡◌, refl, sym, ap, ◌∙◌}
use mathlib.Core.Logic.{◌⊎◌, inl, inr}
use mathlib.Core.Bool.{Bool, true, false, cond}
use mathlib.Core.List.{List, [], ◌∷◌}
use lib.ListN.{length, get_or, set, drop, length-set}
use lib.Seq.{sets, length-sets, get_or-set_same, get_or-set_other, set-get_or, drop-set-lt}
use lib.Dec.{eqb, ltb}
use borrow.Author.Tests.{eqb-true, eqb-false, ltb-true, ltb-false}
use Rattle.rules.specs.declared.Level.{Level}
use Rattle.rules.specs.declared.Level.TheVariants.{Firm, Root}
use Rattle.figures.specs.declared.Figures.{Figures}
use Rattle.figures.specs.declared.Happening.{Happening}
use Rattle.figures.specs.declared.Happening.TheVariants.{Uncounted}
use Rattle.figures.specs.Figures.{accepted, rejected, fills, contracts, notional, cuts, trips_of, away, happening_root, is_of_level, figures_of, no_figures, plus, row_numbers}
use Rattle.figures.specs.Account.{account_size, row_place, row_at, row_of, row_added, account_after}
use Rattle.figures.specs.Levels.{HasRow, columns, figure_at}
use Rattle.figures.specs.History.{added_to}

-- ---- rows added

-- rows whose figures are equal, each to its own, are equal
pub same_row : (f g : Figures) → ((column : ℕ) → column < columns → figure_at f column ≡ figure_at g column) → f ≡ g
unfolding row_numbers
same_row f g e = λ i. record {
  accepted = e 0 (omega arith) i;
  rejected = e 1 (omega arith) i;
  fills = record { 0 = e 2 (omega arith) i };
  contracts = record { 0 = e 3 (omega arith) i };
  notional = record { 0 = e 4 (omega arith) i };
  cuts = e 5 (omega arith) i;
  trips = e 6 (omega arith) i;
  away = e 7 (omega arith) i;
}

-- eight columns, one by one
pub by-columns : (P : ℕ → Type 0) → P 0 → P 1 → P 2 → P 3 → P 4 → P 5 → P 6 → P 7 → (column : ℕ) → column < columns → P column
by-columns P a b c d e f g h zero l = a
by-columns P a b c d e f g h (suc zero) l = b
by-columns P a b c d e f g h (suc (suc zero)) l = c
by-columns P a b c d e f g h (suc (suc (suc zero))) l = d
by-columns P a b c d e f g h (suc (suc (suc (suc zero)))) l = e
by-columns P a b c d e f g h (suc (suc (suc (suc (suc zero))))) l = f
by-columns P a b c d e f g h (suc (suc (suc (suc (suc (suc zero)))))) l = g
by-columns P a b c d e f g h (suc (suc (suc (suc (suc (suc (suc zero))))))) l = h
by-columns P a b c d e f g h (suc (suc (suc (suc (suc (suc (suc (suc n)))))))) l = absurd (omega arith)

-- each figure of two rows added is the sum of theirs
pub plus-at : (f g : Figures) (column : ℕ) → column < columns → figure_at (plus f g) column ≡ figure_at f column + figure_at g column
unfolding row_numbers plus
plus-at f g = by-columns (λ column. figure_at (plus f g) column ≡ figure_at f column + figure_at g column) refl refl refl refl refl refl refl refl

pub none-at : (column : ℕ) → column < columns → figure_at no_figures column ≡ 0
unfolding row_numbers no_figures
none-at = by-columns (λ column. figure_at no_figures column ≡ 0) refl refl refl refl refl refl refl refl

-- adding nothing changes nothing
pub plus_none : (f : Figures) → plus f no_figures ≡ f
plus_none f = same_row _ f (λ column l. plus-at f no_figures column l ∙ omega (arith, none-at column l))

pub none-plus : (f : Figures) → plus no_figures f ≡ f
none-plus f = same_row _ f (λ column l. plus-at no_figures f column l ∙ omega (arith, none-at column l))

pub plus_assoc : (f g h : Figures) → plus (plus f g) h ≡ plus f (plus g h)
plus_assoc f g h =
    same_row _ _
    (λ column l. plus-at (plus f g) h column l ∙ omega (arith, plus-at f g column l, plus-at g h column l) ∙ sym (plus-at f (plus g h) column l))

-- ---- rows in the account

-- a run of stores is read back, and leaves all places beside it
sets-before : (vs xs : List ℕ) (at j : ℕ) → j < at → get_or (sets xs at vs) j 0 ≡ get_or xs j 0
sets-before [] xs at j l = refl
sets-before (v ∷ vs) xs at j l = sets-before vs (set xs at v) (suc at) j (omega arith) ∙ get_or-set_other xs at j v 0 (λ e. omega arith)

sets_behind : (vs xs : List ℕ) (at j : ℕ) → at + length vs ≤ j → get_or (sets xs at vs) j 0 ≡ get_or xs j 0
sets_behind [] xs at j l = refl
sets_behind (v ∷ vs) xs at j l = sets_behind vs (set xs at v) (suc at) j (omega arith) ∙ get_or-set_other xs at j v 0 (λ e. omega arith)

sets-at : (vs xs : List ℕ) (at k : ℕ) → k < length vs → at + length vs ≤ length xs → get_or (sets xs at vs) (at + k) 0 ≡ get_or vs k 0
sets-at [] xs at k l fits = absurd (omega arith)
sets-at (v ∷ vs) xs at zero l fits =
    ap (λ (j : ℕ). get_or (sets (set xs at v) (suc at) vs) j 0) (add-zero at)
    ∙ sets-before vs (set xs at v) (suc at) at (omega arith) ∙ get_or-set_same xs at v 0 (omega arith)
sets-at (v ∷ vs) xs at (suc k) l fits =
    let same : at + suc k ≡ suc at + k = omega arith in
    ap (λ (j : ℕ). get_or (sets (set xs at v) (suc at) vs) j 0) same
    ∙ sets-at vs (set xs at v) (suc at) k (omega arith) (rw length-set (omega arith))

sets-past : (vs xs : List ℕ) (at n : ℕ) → at + length vs ≤ n → drop n (sets xs at vs) ≡ drop n xs
sets-past [] xs at n l = refl
sets-past (v ∷ vs) xs at n l = sets-past vs (set xs at v) (suc at) n (omega arith) ∙ drop-set-lt n xs at v (omega arith)

-- what stands there already, stored again, changes nothing
sets_same : (vs xs : List ℕ) (at : ℕ) → ((k : ℕ) → k < length vs → get_or vs k 0 ≡ get_or xs (at + k) 0) → sets xs at vs ≡ xs
sets_same [] xs at e = refl
sets_same (v ∷ vs) xs at e =
    let first : v ≡ get_or xs at 0 = e 0 (omega arith) ∙ ap (λ (j : ℕ). get_or xs j 0) (add-zero at) in
    let same : set xs at v ≡ xs = ap (set xs at) first ∙ set-get_or xs at 0 in
    ap (λ (l : List ℕ). sets l (suc at) vs) same
    ∙ sets_same vs xs (suc at)
    (λ k l. let next : at + suc k ≡ suc at + k = omega arith in e (suc k) (omega arith) ∙ ap (λ (j : ℕ). get_or xs j 0) next)

-- a row's figure stands at its column behind the row's place
pub row-at : (xs : List ℕ) (at column : ℕ) → column < columns → figure_at (row_at xs at) column ≡ get_or xs (at + column) 0
unfolding row_at row_numbers
row-at xs at =
    by-columns (λ column. figure_at (row_at xs at) column ≡ get_or xs (at + column) 0)
    (ap (λ (j : ℕ). get_or xs j 0) (sym (add-zero at))) refl refl refl refl refl refl refl

-- a row that was written is read
pub row_written : (xs : List ℕ) (at : ℕ) (f : Figures) → at + columns ≤ length xs → row_at (sets xs at (row_numbers f)) at ≡ f
unfolding row_numbers
row_written xs at f fits =
    same_row _ f (λ column l. row-at (sets xs at (row_numbers f)) at column l ∙ sets-at (row_numbers f) xs at column l fits)

-- and rows beside it stay
pub row-beside : (xs : List ℕ) (at other : ℕ) (f : Figures) → (other + columns ≤ at) ⊎ (at + columns ≤ other)
    → row_at (sets xs at (row_numbers f)) other ≡ row_at xs other
unfolding row_numbers
row-beside xs at other f apart =
    same_row _ _ (λ column l. row-at (sets xs at (row_numbers f)) other column l ∙ go column l apart ∙ sym (row-at xs other column l))
  where
    go : (column : ℕ) → column < columns → (other + columns ≤ at) ⊎ (at + columns ≤ other)
        → get_or (sets xs at (row_numbers f)) (other + column) 0 ≡ get_or xs (other + column) 0
    go column l (inl h) = sets-before (row_numbers f) xs at (other + column) (omega arith)
    go column l (inr h) = sets_behind (row_numbers f) xs at (other + column) (omega arith)

-- ---- figures added to a level's row

-- every level's row lies within the account's 520 numbers
row_fits : (level : Level) → HasRow level → row_place level + columns ≤ account_size
unfolding HasRow row_place
row_fits Firm has = omega arith
row_fits (Root r) has = omega arith

-- two levels with rows of their own
unfoldable pub Other : Level → Level → Type 0
Other Firm Firm = ⊥
Other Firm (Root r) = Unit {0}
Other (Root r) Firm = Unit {0}
Other (Root r) (Root q) = r ≡ q → ⊥

apart : (r q : ℕ) → (r ≡ q → ⊥) → (q * 8 + columns ≤ r * 8) ⊎ (r * 8 + columns ≤ q * 8)
apart r q differ = go (ltb r q) refl
  where
    go : (t : Bool) → ltb r q ≡ t → (q * 8 + columns ≤ r * 8) ⊎ (r * 8 + columns ≤ q * 8)
    go true e = inr (omega (arith, ltb-true r q e))
    go false e = inl (omega (arith, ltb-false r q e, differ))

rows_apart : (level other : Level) → HasRow level → HasRow other → Other level other
    → (row_place other + columns ≤ row_place level) ⊎ (row_place level + columns ≤ row_place other)
unfolding HasRow row_place Other
rows_apart Firm Firm has also differ = absurd differ
rows_apart Firm (Root r) has also differ = inl (omega arith)
rows_apart (Root r) Firm has also differ = inr (omega arith)
rows_apart (Root r) (Root q) has also differ = apart r q differ

module _ (level : Level) (has : HasRow level) (f : Figures) (xs : List ℕ) where
  -- they are added to the level's own row
  pub added-own : account_size ≤ length xs → row_of (row_added level f xs) level ≡ plus (row_of xs level) f
  unfolding row_added
  added-own long = row_written xs (row_place level) (plus (row_of xs level) f) (omega (arith, row_fits level has))

  -- rows of other levels stay, and so do the numbers past the account
  pub added-other : (other : Level) → HasRow other → Other level other → row_of (row_added level f xs) other ≡ row_of xs other
  unfolding row_added
  added-other other also differ = row-beside xs (row_place level) (row_place other) (plus (row_of xs level) f) (rows_apart level other has also differ)

  pub added-past : drop account_size (row_added level f xs) ≡ drop account_size xs
  unfolding row_added row_numbers
  added-past = sets-past (row_numbers (plus (row_of xs level) f)) xs (row_place level) account_size (row_fits level has)

pub added-length : (level : Level) (f : Figures) (xs : List ℕ) → length (row_added level f xs) ≡ length xs
unfolding row_added
added-length level f xs = length-sets xs (row_place level) (row_numbers (plus (row_of xs level) f))

-- nothing added changes nothing
pub added_none : (level : Level) (xs : List ℕ) → row_added level no_figures xs ≡ xs
unfolding row_added row_numbers
added_none level xs =
    ap (λ (f : Figures). sets xs (row_place level) (row_numbers f)) (plus_none (row_of xs level))
    ∙ sets_same (row_numbers (row_of xs level)) xs (row_place level) (row-at xs (row_place level))

-- ---- an event

pub after-length : (h : Happening) (xs : List ℕ) → length (account_after h xs) ≡ length xs
unfolding account_after
after-length h xs =
    added-length Firm _ _ ∙ added-length (Root (happening_root h)) _ xs

pub after-past : (h : Happening) → HasRow (Root (happening_root h)) → (xs : List ℕ) → drop account_size (account_after h xs) ≡ drop account_size xs
unfolding account_after HasRow
after-past h known xs = added-past Firm tt _ _ ∙ added-past (Root (happening_root h)) known _ xs

-- AN EVENT ADDS TO EVERY LEVEL'S ROW WHAT IT ADDS THERE: its figures to the firm's and its root's, nothing to any other
pub row-after : (h : Happening) → HasRow (Root (happening_root h)) → (xs : List ℕ) → account_size ≤ length xs → (level : Level) → HasRow level
    → row_of (account_after h xs) level ≡ plus (row_of xs level) (added_to level h)
unfolding account_after added_to is_of_level Other HasRow
row-after h known xs long Firm has =
    added-own Firm has (figures_of Firm h) _ (rw (added-length (Root (happening_root h))) long)
    ∙ ap (λ (f : Figures). plus f (figures_of Firm h)) (added-other (Root (happening_root h)) known _ xs Firm has tt)
row-after h known xs long (Root r) has =
    added-other Firm tt (figures_of Firm h) _ (Root r) has tt ∙ go (eqb r (happening_root h)) refl
  where
    go : (b : Bool) → eqb r (happening_root h) ≡ b
        → row_of (row_added (Root (happening_root h)) (figures_of (Root (happening_root h)) h) xs) (Root r) ≡ plus (row_of xs (Root r)) (cond b (figures_of (Root r) h) no_figures)
    go true e =
        let same = eqb-true r (happening_root h) e in
        rw (← same) (added-own (Root r) has (figures_of (Root r) h) xs long)
    go false e = added-other (Root (happening_root h)) known _ xs (Root r) has (λ same. eqb-false r (happening_root h) e (sym same)) ∙ sym (plus_none (row_of xs (Root r)))

-- one that counts nowhere leaves the account
pub uncounted-same : (xs : List ℕ) → account_after Uncounted xs ≡ xs
unfolding account_after figures_of no_figures accepted rejected fills contracts notional cuts trips_of away
uncounted-same xs = added_none Firm _ ∙ added_none (Root (happening_root Uncounted)) xs
