-- What an event was to the day's account, by its call and its answer. Assumes nothing.
use Rattle.std.specs.Prelude.{ℕ, zero, suc}
use Rattle.machine.specs.declared.Offer.{Offer}
use Rattle.machine.specs.Answer.{Answer, Refused, Judged, Left, Standing}
use Rattle.machine.specs.Calls.{Call, order, lockout, offer, remaining, status, send, report, close}
use Rattle.figures.specs.declared.Happening.{Happening}
use Rattle.figures.specs.declared.Happening.TheVariants.{Uncounted, Ordered, Offered, Reported}

-- an order or a sending: accepted or rejected, by its verdict
unfoldable pub ordered_of : ℕ → Answer → Happening
ordered_of root (Refused n) = Uncounted
ordered_of root (Judged verdict grant roottrip firmtrip) = Ordered root verdict
ordered_of root (Left n) = Uncounted
ordered_of root (Standing roots) = Uncounted

-- an offer: one that was locked out counts nowhere
unfoldable pub offered_of : Offer → Answer → Happening
offered_of o (Refused n) = Uncounted
offered_of o (Judged zero grant roottrip firmtrip) = Offered o.root o.premium o.contracts grant roottrip firmtrip
offered_of o (Judged (suc verdict) grant roottrip firmtrip) = Uncounted
offered_of o (Left n) = Uncounted
offered_of o (Standing roots) = Uncounted

-- a report, of the root of its order
unfoldable pub reported_of : ℕ → Answer → Happening
reported_of root (Refused n) = Uncounted
reported_of root (Judged verdict grant roottrip firmtrip) = Reported root roottrip firmtrip
reported_of root (Left n) = Uncounted
reported_of root (Standing roots) = Uncounted

-- an event by its call and its answer; `sent_root` gives the root of the order that is open under an identity. Lockouts, closings and calls that change
-- nothing count nowhere
unfoldable pub happening_of : (ℕ → ℕ) → Call → Answer → Happening
happening_of sent_root (order time root reset) answer = ordered_of root answer
happening_of sent_root (lockout time level root) answer = Uncounted
happening_of sent_root (offer o) answer = offered_of o answer
happening_of sent_root (remaining time rule unit) answer = Uncounted
happening_of sent_root status answer = Uncounted
happening_of sent_root (send o identity reports) answer = ordered_of o.root answer
happening_of sent_root (report time identity n) answer = reported_of (sent_root identity) answer
happening_of sent_root (close time identity) answer = Uncounted
