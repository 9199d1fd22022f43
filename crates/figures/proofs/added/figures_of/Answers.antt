-- `figures::added::figures_of` meets its contract, case by case. Assumes nothing.
use Rattle.std.proofs.Common.{◌≡◌, ◌*◌}
use Rattle.figures.specs.Figures.{accepted, rejected, fills, contracts, notional, cuts, trips_of, away, figures_of, no_figures}
use Rattle.figures.proofs.Additions.{one-is}
use Rattle.figures.proofs.added.figures_of.Goals as goal

pub returns-in-Uncounted : goal.returns-in-Uncounted
unfolding figures_of accepted rejected fills contracts notional cuts trips_of away no_figures
returns-in-Uncounted c = rw (c.in-Uncounted.is, c.nothing.ensures)

pub returns-in-Ordered : goal.returns-in-Ordered
unfolding figures_of accepted rejected fills contracts notional cuts trips_of away no_figures
returns-in-Ordered c = rw (c.in-Ordered.is, c.nothing-in-Ordered.ensures, c.from.ensures, one-is, c.from-in-Ordered.ensures, one-is)

pub returns-in-Offered : goal.returns-in-Offered
unfolding figures_of accepted rejected fills contracts notional cuts trips_of away no_figures
returns-in-Offered c =
    let price : c.times.result ≡ record { 0 = c.in-Offered.premium * c.in-Offered.grant } = λ i. record { 0 = c.times.ensures i } in
    rw (c.in-Offered.is, c.nothing-in-Offered.ensures, c.from-in-Offered.ensures, one-is, c.from-in-Offered-2.ensures, one-is, c.trip_at.ensures, price)

pub returns-in-Reported : goal.returns-in-Reported
unfolding figures_of accepted rejected fills contracts notional cuts trips_of away no_figures
returns-in-Reported c = rw (c.in-Reported.is, c.nothing-in-Reported.ensures, c.trip_at-in-Reported.ensures)
