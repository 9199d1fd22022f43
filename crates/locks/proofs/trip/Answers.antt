-- `locks::trip` meets its contract: the firm's mark and the root's bit are set where a test says so. Assumes nothing.
use mathlib.Core.Path.{◌≡◌}
use mathlib.Core.Bool.{cond}
use lib.ListN.{set}
use Rattle.locks.proofs.Numbers.{trips-on, trips-off}
use Rattle.locks.proofs.trip.Goals.{Joined-firmtrips, then-firmtrips, else-firmtrips}
use Rattle.locks.proofs.trip.Goals as goal

firm : (c : Joined-firmtrips) → c.if-firmtrips.locks ≡ cond c.args.firmtrips (set c.args.locks.now 0 1) c.args.locks.now
firm c = elim c.if-firmtrips.branch [ then-firmtrips w ↦ rw w.if-firmtrips.true w.locks-is | else-firmtrips w ↦ rw w.if-firmtrips.false w.locks-is ]

pub returns-then-roottrips : goal.returns-then-roottrips
returns-then-roottrips c =
    let a = c.args in
    trips-on c.requires.0 a.root a.roottrips a.firmtrips (firm (goal.at.returns-then-roottrips c).Joined-firmtrips) c.if-roottrips.true c.mark.ensures

pub returns-else-roottrips : goal.returns-else-roottrips
returns-else-roottrips c =
    let a = c.args in
    trips-off c.requires.0 a.root a.roottrips a.firmtrips (firm (goal.at.returns-else-roottrips c).Joined-firmtrips) c.if-roottrips.false
