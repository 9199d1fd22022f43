-- What the code over an account asks for and tells: an event whose numbers are in range, a row none of whose figures is above a number, and the greatest
-- of some numbers. Assumes nothing.
use Rattle.std.specs.Prelude.{ℕ, ◌/◌, ◌≤◌, ◌<◌, max, ◌≡◌, Bool, true, cond, List, [], ◌∷◌, length, eqb}
use Rattle.laws.specs.Folds.{every}
use Rattle.measures.specs.Ranges.{premiums, offers}
use Rattle.figures.specs.declared.Figures.{Figures}
use Rattle.figures.specs.declared.Happening.{Happening}
use Rattle.figures.specs.declared.Happening.TheVariants.{Uncounted, Ordered, Offered, Reported}
use Rattle.figures.specs.Figures.{happening_root}
use Rattle.figures.specs.Account.{account_size, is_account}

-- an offer's premium and what it was granted are at most what an offer may have
abbrev pub PricedHappening : Happening → Type 0
PricedHappening Uncounted = Unit
PricedHappening (Ordered root verdict) = Unit
PricedHappening (Offered root premium contracts grant roottrip firmtrip) = (premium ≤ premiums.most) × (grant ≤ offers.most)
PricedHappening (Reported root roottrip firmtrip) = Unit

-- an account, and an event that it may count: of one of its roots, and priced
pub record Counting (xs : List ℕ) (h : Happening) : Type 0 where
  pub long : account_size ≤ length xs
  pub account : is_account xs ≡ true
  pub root : happening_root h < 64
  pub priced : PricedHappening h

-- no figure of a row is above a number
pub record AtMost (k : ℕ) (f : Figures) : Type 0 where
  pub accepted : f.accepted ≤ k
  pub rejected : f.rejected ≤ k
  pub fills : f.fills.0 ≤ k
  pub contracts : f.contracts.0 ≤ k
  pub notional : f.notional.0 ≤ k
  pub cuts : f.cuts ≤ k
  pub trips : f.trips ≤ k
  pub away : f.away ≤ k

-- the greatest of some numbers, 0 of none
unfoldable pub greatest_of : List ℕ → ℕ
greatest_of [] = 0
greatest_of (x ∷ xs) = max x (greatest_of xs)

-- all of them are below 2^59
unfoldable pub are_low : List ℕ → Bool
are_low xs = every (λ n. eqb (n / 576_460_752_303_423_488) 0) xs

-- a number that none of them passes: 2^59 - 1 where all are below 2^59, else the greatest
unfoldable pub bound_of : List ℕ → ℕ
bound_of xs = cond (are_low xs) 576_460_752_303_423_487 (greatest_of xs)
