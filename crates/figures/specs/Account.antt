-- The account as numbers: eight a row, the roots' 64 rows and then the firm's. Assumes nothing.
use Rattle.std.specs.Prelude.{ℕ, ◌+◌, ◌*◌, Bool, List, get_or, take, leb}
use Rattle.std.proofs.lemmas.List.Edits.{sets}
use Rattle.laws.specs.Folds.{every}
use Rattle.measures.specs.Ranges.{totals}
use Rattle.rules.specs.declared.Level.{Level}
use Rattle.rules.specs.declared.Level.TheVariants.{Firm, Root}
use Rattle.figures.specs.declared.Figures.{Figures}
use Rattle.figures.specs.declared.Happening.{Happening}
use Rattle.figures.specs.Figures.{figures_of, plus, row_numbers, happening_root}

-- how many numbers an account has
abbrev pub account_size : ℕ
account_size = 520

-- what no figure may pass: 10^18, as a total may not
abbrev pub most : ℕ
most = totals.most

-- where a level's row begins
unfoldable pub row_place : Level → ℕ
row_place Firm = 512
row_place (Root r) = r * 8

-- the row that begins at a place
unfoldable pub row_at : List ℕ → ℕ → Figures
row_at xs at = record {
  accepted = get_or xs at 0;
  rejected = get_or xs (at + 1) 0;
  fills = record { 0 = get_or xs (at + 2) 0 };
  contracts = record { 0 = get_or xs (at + 3) 0 };
  notional = record { 0 = get_or xs (at + 4) 0 };
  cuts = get_or xs (at + 5) 0;
  trips = get_or xs (at + 6) 0;
  away = get_or xs (at + 7) 0;
}

-- a level's row
abbrev pub row_of : List ℕ → Level → Figures
row_of xs level = row_at xs (row_place level)

-- figures added to a level's row
unfoldable pub row_added : Level → Figures → List ℕ → List ℕ
row_added level f xs = sets xs (row_place level) (row_numbers (plus (row_of xs level) f))

-- the account after an event: it is counted in its root's row and in the firm's
unfoldable pub account_after : Happening → List ℕ → List ℕ
account_after h xs = row_added Firm (figures_of Firm h) (row_added (Root (happening_root h)) (figures_of (Root (happening_root h)) h) xs)

-- no figure is above 10^18
unfoldable pub is_account : List ℕ → Bool
is_account xs = every (λ n. leb n most) (take account_size xs)
