-- What an event adds to the firm's row is what it adds over the roots' rows, trips apart. Assumes nothing.
use Prim.Native.Nat.{ℕ, zero, suc, ◌+◌, ◌<◌}
use native.Mathlib.Omega.{arith}
use mathlib.Core.Path.{◌≡◌, refl, sym, ap, ap₂, ◌∙◌}
use mathlib.Core.Bool.{Bool, true, false, cond}
use lib.Dec.{eqb}
use borrow.Author.Tests.{eqb-true, eqb-false, eq-eqb, ne_eqb}
use Rattle.bits.specs.Locks.{count}
use Rattle.bits.proofs.Counting.{count-ext}
use Rattle.rules.specs.declared.Level.{Level}
use Rattle.rules.specs.declared.Level.TheVariants.{Firm, Root}
use Rattle.figures.specs.declared.Figures.{Figures}
use Rattle.figures.specs.declared.Happening.{Happening}
use Rattle.figures.specs.Figures.{happening_root, is_of_level, figures_of, no_figures, plus, row_numbers}
use Rattle.figures.specs.Levels.{HasRow, columns, figure_at, over_roots, AddsUp}
use Rattle.figures.specs.History.{added_to}
use Rattle.figures.proofs.Table.{by-columns, plus-at, none-at}

-- ---- sums over the first n numbers

count_add : (f g : ℕ → ℕ) (n : ℕ) → count (λ r. f r + g r) n ≡ count f n + count g n
unfolding count
count_add f g zero = omega arith
count_add f g (suc n) = rw (count_add (λ r. f (suc r)) (λ r. g (suc r)) n) (omega arith)

count_none : (f : ℕ → ℕ) (n : ℕ) → ((r : ℕ) → f r ≡ 0) → count f n ≡ 0
unfolding count
count_none f zero none = refl
count_none f (suc n) none = rw (none 0, count_none (λ r. f (suc r)) n (λ r. none (suc r)))

eqb-suc : (a b : ℕ) → eqb (suc a) (suc b) ≡ eqb a b
eqb-suc a b = go (eqb a b) refl
  where
    go : (c : Bool) → eqb a b ≡ c → eqb (suc a) (suc b) ≡ c
    go true e = eq-eqb (suc a) (suc b) (ap suc (eqb-true a b e))
    go false e = ne_eqb (suc a) (suc b) (λ same. eqb-false a b e (omega arith))

-- one of them alone
count-one : (root x n : ℕ) → root < n → count (λ r. cond (eqb r root) x 0) n ≡ x
unfolding count
count-one root x zero h = absurd (omega arith)
count-one zero x (suc n) h =
    rw (count_none (λ r. cond (eqb (suc r) 0) x 0) n (λ r. rw (ne_eqb (suc r) 0 (λ e. omega arith)))) (omega arith)
count-one (suc root) x (suc n) h =
    rw (ne_eqb 0 (suc root) (λ e. omega arith))
    (ap (λ (m : ℕ). 0 + m)
    (count-ext (λ r. cond (eqb (suc r) (suc root)) x 0) (λ r. cond (eqb r root) x 0) n (λ r l. ap (λ (b : Bool). cond b x 0) (eqb-suc r root))
    ∙ count-one root x n (omega arith))
    ∙ omega arith)

-- ---- rows that add up

-- column by column, that of trips apart
abbrev trips_column : ℕ
trips_column = 6

abbrev ByColumn : (Level → Figures) → Type 0
ByColumn rows =
    (column : ℕ) → column < columns → (column ≡ trips_column → ⊥) → figure_at (rows Firm) column ≡ over_roots (λ r. figure_at (rows (Root r)) column)

by_name : (rows : Level → Figures) → ByColumn rows → AddsUp rows
unfolding row_numbers
by_name rows sums = record {
  accepted = sums 0 (omega arith) (λ e. omega arith);
  rejected = sums 1 (omega arith) (λ e. omega arith);
  fills = sums 2 (omega arith) (λ e. omega arith);
  contracts = sums 3 (omega arith) (λ e. omega arith);
  notional = sums 4 (omega arith) (λ e. omega arith);
  cuts = sums 5 (omega arith) (λ e. omega arith);
  away = sums 7 (omega arith) (λ e. omega arith);
}

by-column : (rows : Level → Figures) → AddsUp rows → ByColumn rows
unfolding row_numbers
by-column rows adds =
    by-columns (λ column. (column ≡ trips_column → ⊥) → figure_at (rows Firm) column ≡ over_roots (λ r. figure_at (rows (Root r)) column)) (λ n. adds.accepted)
    (λ n. adds.rejected) (λ n. adds.fills) (λ n. adds.contracts) (λ n. adds.notional) (λ n. adds.cuts) (λ n. absurd (n refl)) (λ n. adds.away)

-- rows that are equal where there are rows
pub adds_same : (f g : Level → Figures) → ((level : Level) → HasRow level → f level ≡ g level) → AddsUp g → AddsUp f
unfolding HasRow
adds_same f g same adds =
    by_name f
    (λ column l other.
    ap (λ (r : Figures). figure_at r column) (same Firm tt) ∙ by-column g adds column l other
    ∙ sym (count-ext (λ r. figure_at (f (Root r)) column) (λ r. figure_at (g (Root r)) column) _
    (λ r h. ap (λ (x : Figures). figure_at x column) (same (Root r) (omega arith)))))

pub adds_none : AddsUp (λ level. no_figures)
adds_none = by_name (λ level. no_figures) (λ column l other. none-at column l ∙ sym (count_none (λ r. figure_at no_figures column) _ (λ r. none-at column l)))

pub adds-plus : (f g : Level → Figures) → AddsUp f → AddsUp g → AddsUp (λ level. plus (f level) (g level))
adds-plus f g a b =
    by_name (λ level. plus (f level) (g level))
    (λ column l other.
    plus-at (f Firm) (g Firm) column l ∙ ap₂ ◌+◌ (by-column f a column l other) (by-column g b column l other)
    ∙ sym (count_add (λ r. figure_at (f (Root r)) column) (λ r. figure_at (g (Root r)) column) _)
    ∙ count-ext (λ r. figure_at (f (Root r)) column + figure_at (g (Root r)) column) (λ r. figure_at (plus (f (Root r)) (g (Root r))) column) _
    (λ r h. sym (plus-at (f (Root r)) (g (Root r)) column l)))

-- an event's figures are the firm's and one root's, trips apart
shared : (h : Happening) (r column : ℕ) → column < columns → (column ≡ trips_column → ⊥) → figure_at (figures_of Firm h) column ≡ figure_at (figures_of (Root r) h) column
unfolding figures_of row_numbers
shared h r =
    by-columns (λ column. (column ≡ trips_column → ⊥) → figure_at (figures_of Firm h) column ≡ figure_at (figures_of (Root r) h) column) (λ n. refl) (λ n. refl) (λ n. refl)
    (λ n. refl) (λ n. refl) (λ n. refl) (λ n. absurd (n refl)) (λ n. refl)

pub adds-event : (h : Happening) → HasRow (Root (happening_root h)) → AddsUp (λ level. added_to level h)
unfolding added_to is_of_level HasRow
adds-event h known =
    by_name (λ level. added_to level h)
    (λ column l other.
    sym
    (count-ext (λ r. figure_at (added_to (Root r) h) column) (λ r. cond (eqb r (happening_root h)) (figure_at (figures_of Firm h) column) 0) _
    (λ r low. go column l other r (eqb r (happening_root h)))
    ∙ count-one (happening_root h) (figure_at (figures_of Firm h) column) _ known))
  where
    go : (column : ℕ) → column < columns → (column ≡ trips_column → ⊥) → (r : ℕ) (b : Bool)
        → figure_at (cond b (figures_of (Root r) h) no_figures) column ≡ cond b (figure_at (figures_of Firm h) column) 0
    go column l other r true = sym (shared h r column l other)
    go column l other r false = none-at column l
