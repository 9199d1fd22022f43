-- The test that no figure is above 10^18 tells of every row's figures, before an event and after it. Assumes nothing.
use Prim.Native.Nat.{ℕ, suc, ◌+◌, ◌*◌, ◌/◌, ◌%◌, ◌≤◌, ◌<◌}
use native.Mathlib.Omega.{arith}
use mathlib.Core.Path.{◌≡◌, refl, sym, ap, ◌∙◌, subst}
use mathlib.Core.Bool.{Bool, true, false, ◌&&◌, false≢true}
use mathlib.Core.List.{List, [], ◌∷◌}
use lib.ListN.{length, get_or, take, length-take, get_or-eq_default}
use lib.Seq.{get_or-take}
use lib.Dec.{leb, ltb}
use borrow.Author.Tests.{leb-true, leb-false, ltb-true, ltb-false}
use Rattle.laws.specs.Folds.{every}
use Rattle.laws.proofs.Every.{every-at}
use Rattle.rules.specs.declared.Level.{Level}
use Rattle.rules.specs.declared.Level.TheVariants.{Firm, Root}
use Rattle.figures.specs.Account.{account_size, most, row_place, row_at, row_of, is_account}
use Rattle.figures.specs.Levels.{HasRow, columns, figure_at, WithinMost, Above}
use Rattle.figures.proofs.Table.{row-at}

-- where a test fails, some element fails it
some-fails : (ok : ℕ → Bool) (xs : List ℕ) → every ok xs ≡ false → (i : ℕ) × ((i < length xs) × (ok (get_or xs i 0) ≡ false))
unfolding every
some-fails ok [] e = absurd (false≢true (sym e))
some-fails ok (x ∷ xs) e = go (ok x) refl e (some-fails ok xs)
  where
    go : (b : Bool) → ok x ≡ b → (b && every ok xs) ≡ false → (every ok xs ≡ false → (i : ℕ) × ((i < length xs) × (ok (get_or xs i 0) ≡ false)))
        → (i : ℕ) × ((i < suc (length xs)) × (ok (get_or (x ∷ xs) i 0) ≡ false))
    go true t e next = let w = next e in (suc w.0, (omega (arith, w.1.0), w.1.1))
    go false t e next = (0, (omega arith, t))

-- a figure of a row is a number of the account
pub row_inside : (level : Level) → HasRow level → (column : ℕ) → column < columns → row_place level + column < account_size
unfolding HasRow row_place
row_inside Firm has column l = omega arith
row_inside (Root r) has column l = omega arith

module _ (xs : List ℕ) where
  -- and a number of the account is a figure of some row
  placed : (P : ℕ → Type 0) (n : ℕ) → n < account_size → P (get_or xs n 0)
      → (level : Level) × (HasRow level × ((column : ℕ) × ((column < columns) × P (figure_at (row_of xs level) column))))
  unfolding HasRow row_place
  placed P n low p = go (ltb n 512) refl
    where
      at : (place column : ℕ) → column < columns → place + column ≡ n → P (figure_at (row_at xs place) column)
      at place column l e = subst P (sym (row-at xs place column l ∙ ap (λ (j : ℕ). get_or xs j 0) e)) p

      go : (b : Bool) → ltb n 512 ≡ b → (level : Level) × (HasRow level × ((column : ℕ) × ((column < columns) × P (figure_at (row_of xs level) column))))
      go true e =
          let l = ltb-true n 512 e in
          (Root (n / 8), (omega arith, (n % 8, (omega arith, at (n / 8 * 8) (n % 8) (omega arith) (omega arith)))))
      go false e =
          let l = ltb-false n 512 e in
          (Firm, (tt, (n % 8, (omega arith, at 512 (n % 8) (omega arith) (omega arith)))))

  -- an account past its end has zeros
  taken : (n : ℕ) → n < account_size → get_or (take account_size xs) n 0 ≡ get_or xs n 0
  taken n low = get_or-take account_size xs n 0 low

  -- THE TEST OF AN ACCOUNT: it passes exactly if no figure of any row is above 10^18, and fails exactly if some figure is
  pub fails-above : is_account xs ≡ false → Above xs
  unfolding is_account Above
  fails-above e =
      let w = some-fails (λ n. leb n most) (take account_size xs) e in
      let low : w.0 < account_size = omega (arith, w.1.0, length-take account_size xs) in
      placed (λ n. most < n) w.0 low (rw (taken w.0 low) at (leb-false (get_or (take account_size xs) w.0 0) most w.1.1))

  pub passes-within : is_account xs ≡ true → WithinMost xs
  unfolding is_account WithinMost
  passes-within e level has column l = rw (row-at xs (row_place level) column l) (small (row_place level + column) (row_inside level has column l))
    where
      small : (n : ℕ) → n < account_size → get_or xs n 0 ≤ most
      small n low = go (ltb n (length xs)) refl
        where
          go : (b : Bool) → ltb n (length xs) ≡ b → get_or xs n 0 ≤ most
          go true t =
              let here : n < length (take account_size xs) = rw (length-take account_size xs) (omega (arith, ltb-true n (length xs) t)) in
              rw (taken n low) at (leb-true (get_or (take account_size xs) n 0) most (every-at (λ k. leb k most) (take account_size xs) n 0 e here))
          go false t = rw (get_or-eq_default xs 0 (ltb-false n (length xs) t)) (omega arith)

  pub within-passes : WithinMost xs → is_account xs ≡ true
  unfolding WithinMost Above
  within-passes w = go (is_account xs) refl
    where
      go : (b : Bool) → is_account xs ≡ b → b ≡ true
      go true e = refl
      go false e =
          let a = fails-above e in
          absurd (omega (arith, w a.0 a.1.0 a.1.1.0 a.1.1.1.0, a.1.1.1.1))

  pub above-fails : Above xs → is_account xs ≡ false
  unfolding WithinMost Above
  above-fails a = go (is_account xs) refl
    where
      go : (b : Bool) → is_account xs ≡ b → b ≡ false
      go true e = absurd (omega (arith, passes-within e a.0 a.1.0 a.1.1.0 a.1.1.1.0, a.1.1.1.1))
      go false e = refl
