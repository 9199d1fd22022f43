-- The eight figures of a row, each by what an event was. Assumes nothing.
use Rattle.std.specs.Prelude.{ℕ, ◌+◌, ◌*◌, Bool, true, not, List, [], ◌∷◌, eqb, ltb}
use Rattle.rules.specs.declared.Level.{Level}
use Rattle.rules.specs.declared.Level.TheVariants.{Firm, Root}
use Rattle.demand.specs.Answers.{one}
use Rattle.figures.specs.declared.Figures.{Figures}
use Rattle.figures.specs.declared.Happening.{Happening}
use Rattle.figures.specs.declared.Happening.TheVariants.{Uncounted, Ordered, Offered, Reported}

-- accepted orders: orders and sendings at verdict 0
unfoldable pub accepted : Happening → ℕ
accepted Uncounted = 0
accepted (Ordered root verdict) = one (eqb verdict 0)
accepted (Offered root premium contracts grant roottrip firmtrip) = 0
accepted (Reported root roottrip firmtrip) = 0

-- rejected orders: those at any other verdict
unfoldable pub rejected : Happening → ℕ
rejected Uncounted = 0
rejected (Ordered root verdict) = one (not (eqb verdict 0))
rejected (Offered root premium contracts grant roottrip firmtrip) = 0
rejected (Reported root roottrip firmtrip) = 0

-- fills: grants above 0
unfoldable pub fills : Happening → ℕ
fills Uncounted = 0
fills (Ordered root verdict) = 0
fills (Offered root premium contracts grant roottrip firmtrip) = one (ltb 0 grant)
fills (Reported root roottrip firmtrip) = 0

-- contracts: what was granted
unfoldable pub contracts : Happening → ℕ
contracts Uncounted = 0
contracts (Ordered root verdict) = 0
contracts (Offered root premium offered grant roottrip firmtrip) = grant
contracts (Reported root roottrip firmtrip) = 0

-- notional: premium times what was granted, in ten-thousandths
unfoldable pub notional : Happening → ℕ
notional Uncounted = 0
notional (Ordered root verdict) = 0
notional (Offered root premium offered grant roottrip firmtrip) = premium * grant
notional (Reported root roottrip firmtrip) = 0

-- cuts: offers not locked out that were granted less than was offered
unfoldable pub cuts : Happening → ℕ
cuts Uncounted = 0
cuts (Ordered root verdict) = 0
cuts (Offered root premium offered grant roottrip firmtrip) = one (ltb grant offered)
cuts (Reported root roottrip firmtrip) = 0

-- trips of a level, by offers and by reports: a root's are root trips, the firm's firm trips
unfoldable pub trip_at : Level → Bool → Bool → ℕ
trip_at Firm roottrip firmtrip = one firmtrip
trip_at (Root r) roottrip firmtrip = one roottrip

unfoldable pub trips_of : Level → Happening → ℕ
trips_of level Uncounted = 0
trips_of level (Ordered root verdict) = 0
trips_of level (Offered root premium contracts grant roottrip firmtrip) = trip_at level roottrip firmtrip
trips_of level (Reported root roottrip firmtrip) = trip_at level roottrip firmtrip

-- away reports
unfoldable pub away : Happening → ℕ
away Uncounted = 0
away (Ordered root verdict) = 0
away (Offered root premium contracts grant roottrip firmtrip) = 0
away (Reported root roottrip firmtrip) = 1

-- the root that an event is of; what counts nowhere is given the first
unfoldable pub happening_root : Happening → ℕ
happening_root Uncounted = 0
happening_root (Ordered root verdict) = root
happening_root (Offered root premium contracts grant roottrip firmtrip) = root
happening_root (Reported root roottrip firmtrip) = root

-- the firm's row has all events of the firm, a root's those of the root
unfoldable pub is_of_level : Level → Happening → Bool
is_of_level Firm h = true
is_of_level (Root r) h = eqb r (happening_root h)

-- what an event adds to a row that it is of
unfoldable pub figures_of : Level → Happening → Figures
figures_of level h = record {
  accepted = accepted h;
  rejected = rejected h;
  fills = record { 0 = fills h };
  contracts = record { 0 = contracts h };
  notional = record { 0 = notional h };
  cuts = cuts h;
  trips = trips_of level h;
  away = away h;
}

-- nothing, and two rows added, each figure to its own
unfoldable pub no_figures : Figures
no_figures = record {
  accepted = 0;
  rejected = 0;
  fills = record { 0 = 0 };
  contracts = record { 0 = 0 };
  notional = record { 0 = 0 };
  cuts = 0;
  trips = 0;
  away = 0;
}

unfoldable pub plus : Figures → Figures → Figures
plus a b = record {
  accepted = a.accepted + b.accepted;
  rejected = a.rejected + b.rejected;
  fills = record { 0 = a.fills.0 + b.fills.0 };
  contracts = record { 0 = a.contracts.0 + b.contracts.0 };
  notional = record { 0 = a.notional.0 + b.notional.0 };
  cuts = a.cuts + b.cuts;
  trips = a.trips + b.trips;
  away = a.away + b.away;
}

-- a row's eight numbers
unfoldable pub row_numbers : Figures → List ℕ
row_numbers f =
    f.accepted ∷ f.rejected ∷ f.fills.0 ∷ f.contracts.0 ∷ f.notional.0 ∷ f.cuts ∷ f.trips ∷ f.away ∷ []
