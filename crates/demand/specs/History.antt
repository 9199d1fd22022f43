-- What was done in a history, as its calls and answers tell. Assumes nothing.
use Rattle.std.specs.Prelude.{ℕ, zero, suc, ◌≡◌, Bool, true, false, cond, List, [], ◌∷◌}
use Rattle.rules.specs.Rules.{added}
use Rattle.rules.specs.Allowance.{All}
use Rattle.rules.specs.declared.Level.{Level}
use Rattle.rules.specs.declared.Rule.{Rule}
use Rattle.machine.specs.Answer.{Answer, Refused, Judged, Left, Standing}
use Rattle.machine.specs.declared.Offer.{Offer}
use Rattle.machine.specs.declared.Sent.{Sent}
use Rattle.machine.specs.Effects.{effect_of, zeroing, lifting}
use Rattle.machine.specs.Calls.{Call, order, lockout, offer, remaining, status, send, report, close}
use Rattle.machine.specs.Deeds.{Source, granted, reported, Deed, nothing, passing, filling, resetting, locking_out, sending, closing, clock_after}
use Rattle.machine.specs.Order.{level_named}
use Rattle.machine.specs.Offers.{covers_offer}
use Rattle.machine.specs.Register.{sent_of}
use Rattle.demand.specs.Run.{Event}
use Rattle.demand.specs.Away.{fill_in}

-- a call was accepted if it was judged, whatever the verdict
unfoldable pub if_accepted : Answer → Deed → Deed
if_accepted (Refused n) deed = nothing
if_accepted (Judged verdict grant roottrip firmtrip) deed = deed
if_accepted (Left n) deed = nothing
if_accepted (Standing roots) deed = nothing

-- an offer was granted something, perhaps 0, if its verdict was 0
unfoldable pub if_granted : Answer → Offer → Deed
if_granted (Refused n) o = nothing
if_granted (Judged zero grant roottrip firmtrip) o = filling granted o grant
if_granted (Judged (suc verdict) grant roottrip firmtrip) o = passing o.time
if_granted (Left n) o = nothing
if_granted (Standing roots) o = nothing

-- an order was sent away if its verdict was 0
unfoldable pub if_sent : Answer → ℕ → Sent → Deed
if_sent (Refused n) time sent = nothing
if_sent (Judged zero grant roottrip firmtrip) time sent = sending time sent
if_sent (Judged (suc verdict) grant roottrip firmtrip) time sent = passing time
if_sent (Left n) time sent = nothing
if_sent (Standing roots) time sent = nothing

-- what a call did that was so answered, by what was done before it: a report is for what was sent under its identity
unfoldable pub deed_of : List Deed → Call → Answer → Deed
deed_of earlier (order time root reset) answer = if_accepted answer (resetting time root (effect_of reset))
deed_of earlier (lockout time level root) answer = if_accepted answer (locking_out time (level_named level root))
deed_of earlier (offer o) answer = if_granted answer o
deed_of earlier (remaining time rule unit) answer = nothing
deed_of earlier status answer = nothing
deed_of earlier (send o identity reports) answer = if_sent answer o.time (sent_of o identity reports)
deed_of earlier (report time identity n) answer = if_accepted answer (filling (reported identity) (fill_in earlier time identity n) n)
deed_of earlier (close time identity) answer = if_accepted answer (closing time identity)

-- the deeds of a history, one an event, newest first
unfoldable pub deeds_of : List Event → List Deed
deeds_of [] = []
deeds_of (event ∷ earlier) = deed_of (deeds_of earlier) event.call event.answer ∷ deeds_of earlier

-- the time of a deed
abbrev pub deed_time : Deed → ℕ
deed_time deed = clock_after deed 0

-- the contracts that a deed fills
unfoldable pub contracts_of : Deed → ℕ
contracts_of nothing = 0
contracts_of (passing time) = 0
contracts_of (filling source o n) = n
contracts_of (resetting time root effect) = 0
contracts_of (locking_out time level) = 0
contracts_of (sending time sent) = 0
contracts_of (closing time identity) = 0

-- what a deed adds to what a rule counts: a fill that the rule covers adds what its contracts add, all else 0
unfoldable pub amount_of : Rule → Deed → ℕ
amount_of rule nothing = 0
amount_of rule (passing time) = 0
amount_of rule (filling source o n) = cond (covers_offer o rule) (added rule.limit o.premium n) 0
amount_of rule (resetting time root effect) = 0
amount_of rule (locking_out time level) = 0
amount_of rule (sending time sent) = 0
amount_of rule (closing time identity) = 0

-- a fill that came back from an away market
unfoldable pub is_reported : Source → Bool
is_reported granted = false
is_reported (reported identity) = true

unfoldable pub is_away : Deed → Bool
is_away nothing = false
is_away (passing time) = false
is_away (filling source o n) = is_reported source
is_away (resetting time root effect) = false
is_away (locking_out time level) = false
is_away (sending time sent) = false
is_away (closing time identity) = false

-- a reset that zeroes the counters of a level
unfoldable pub zeroes : Level → Deed → Bool
zeroes level nothing = false
zeroes level (passing time) = false
zeroes level (filling source o n) = false
zeroes level (resetting time root effect) = zeroing effect root level
zeroes level (locking_out time other) = false
zeroes level (sending time sent) = false
zeroes level (closing time identity) = false

-- a reset that takes away the trip and the lockout of a level
unfoldable pub lifts : Level → Deed → Bool
lifts level nothing = false
lifts level (passing time) = false
lifts level (filling source o n) = false
lifts level (resetting time root effect) = lifting effect root level
lifts level (locking_out time other) = false
lifts level (sending time sent) = false
lifts level (closing time identity) = false

-- no deed of a list passes a test
unfoldable pub NoneOf : (Deed → Bool) → List Deed → Type 0
NoneOf test deeds = All (λ deed. test deed ≡ false) deeds
