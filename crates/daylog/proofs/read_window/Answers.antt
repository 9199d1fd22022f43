-- `daylog::read_window` meets its contract: the last entries are all that are inside. Assumes nothing.
use Rattle.daylog.specs.Inner.Reading.{window_reading}
use Rattle.daylog.proofs.read_window.Goals as goal

pub returns : goal.returns
unfolding window_reading
returns c =
    let is = c.first_time.ensures in
    let many = c.inside-passed.ensures.count in
    λ i. record { from = is i; passed = many i }
