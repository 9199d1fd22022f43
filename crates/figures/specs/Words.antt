-- Each figure in the words of the request, counted over the calls and answers themselves. Assumes nothing.
use Rattle.std.specs.Prelude.{ℕ, ◌+◌, ◌*◌, ◌≡◌, Bool, true, false, not, cond, ◌&&◌, ◌||◌, List, [], ◌∷◌, eqb, ltb}
use Rattle.rules.specs.declared.Level.{Level}
use Rattle.rules.specs.declared.Level.TheVariants.{Firm, Root}
use Rattle.machine.specs.declared.Sent.{Sent}
use Rattle.machine.specs.Answer.{Answer, Refused, Judged, Left, Standing}
use Rattle.machine.specs.Calls.{Call, order, lockout, offer, remaining, status, send, report, close}
use Rattle.demand.specs.Run.{Event}
use Rattle.demand.specs.Answers.{one}
use Rattle.figures.specs.History.{is_free, root_sent, figures_in}

-- ---- what a call is of

-- the firm has every root, a root itself alone
unfoldable pub is_at : Level → ℕ → Bool
is_at Firm root = true
is_at (Root r) root = eqb r root

-- an order or an order sent away, for the level
unfoldable pub is_order : Level → Call → Bool
is_order level (order time root reset) = is_at level root
is_order level (lockout time which root) = false
is_order level (offer o) = false
is_order level (remaining time rule unit) = false
is_order level status = false
is_order level (send o identity is_report) = is_at level o.root
is_order level (report time identity n) = false
is_order level (close time identity) = false

-- an offer for the level
unfoldable pub is_offer : Level → Call → Bool
is_offer level (order time root reset) = false
is_offer level (lockout time which root) = false
is_offer level (offer o) = is_at level o.root
is_offer level (remaining time rule unit) = false
is_offer level status = false
is_offer level (send o identity is_report) = false
is_offer level (report time identity n) = false
is_offer level (close time identity) = false

-- a report for the level, by the root of its order
unfoldable pub is_report : Level → (ℕ → ℕ) → Call → Bool
is_report level sent_root (order time root reset) = false
is_report level sent_root (lockout time which root) = false
is_report level sent_root (offer o) = false
is_report level sent_root (remaining time rule unit) = false
is_report level sent_root status = false
is_report level sent_root (send o identity asked) = false
is_report level sent_root (report time identity n) = is_at level (sent_root identity)
is_report level sent_root (close time identity) = false

-- an offer's premium and contracts, 0 for any other call
unfoldable pub premium_in : Call → ℕ
premium_in (order time root reset) = 0
premium_in (lockout time which root) = 0
premium_in (offer o) = o.premium
premium_in (remaining time rule unit) = 0
premium_in status = 0
premium_in (send o identity asked) = 0
premium_in (report time identity n) = 0
premium_in (close time identity) = 0

unfoldable pub contracts_in : Call → ℕ
contracts_in (order time root reset) = 0
contracts_in (lockout time which root) = 0
contracts_in (offer o) = o.contracts
contracts_in (remaining time rule unit) = 0
contracts_in status = 0
contracts_in (send o identity asked) = 0
contracts_in (report time identity n) = 0
contracts_in (close time identity) = 0

-- ---- what an answer says

-- it is no refusal, and has a verdict; `is_free` is that this is 0
unfoldable pub is_judged : Answer → Bool
is_judged (Refused n) = false
is_judged (Judged verdict grant roottrip firmtrip) = true
is_judged (Left n) = false
is_judged (Standing roots) = false

-- its grant, and its trip of the level
unfoldable pub grant_said : Answer → ℕ
grant_said (Refused n) = 0
grant_said (Judged verdict grant roottrip firmtrip) = grant
grant_said (Left n) = 0
grant_said (Standing roots) = 0

unfoldable pub trip_in : Level → Answer → Bool
trip_in level (Refused n) = false
trip_in Firm (Judged verdict grant roottrip firmtrip) = firmtrip
trip_in (Root r) (Judged verdict grant roottrip firmtrip) = roottrip
trip_in level (Left n) = false
trip_in level (Standing roots) = false

-- ---- the figures

-- a number of each event, with the events before it, added up
unfoldable pub tally : (List Event → Event → ℕ) → List Event → ℕ
tally number [] = 0
tally number (event ∷ earlier) = tally number earlier + number earlier event

-- what the figures of a level are, of an account that was begun beside this register
pub record FiguresSaid (register : List Sent) (history : List Event) (level : Level) : Type 0 where
  -- orders and sendings at verdict 0, and those at another verdict
  pub accepted :
      (figures_in register history level).accepted ≡ tally (λ earlier e. one (is_order level e.call && is_free e.answer)) history
  pub rejected :
      (figures_in register history level).rejected
      ≡ tally (λ earlier e. one (is_order level e.call && (is_judged e.answer && not (is_free e.answer)))) history
  -- offers at verdict 0: those granted more than 0, what they were granted, that times their premium, and those granted less than was offered
  pub fills :
      (figures_in register history level).fills.0
      ≡ tally (λ earlier e. one (is_offer level e.call && (is_free e.answer && ltb 0 (grant_said e.answer)))) history
  pub contracts :
      (figures_in register history level).contracts.0
      ≡ tally (λ earlier e. cond (is_offer level e.call && is_free e.answer) (grant_said e.answer) 0) history
  pub notional :
      (figures_in register history level).notional.0
      ≡ tally (λ earlier e. cond (is_offer level e.call && is_free e.answer) (premium_in e.call * grant_said e.answer) 0) history
  pub cuts :
      (figures_in register history level).cuts
      ≡ tally (λ earlier e. one (is_offer level e.call && (is_free e.answer && ltb (grant_said e.answer) (contracts_in e.call)))) history
  -- offers at verdict 0 and reports that tripped the level
  pub trips :
      (figures_in register history level).trips
      ≡ tally
      (λ earlier e.
      one (((is_offer level e.call && is_free e.answer) || is_report level (root_sent register earlier) e.call) && trip_in level e.answer)) history
  -- reports that were not refused
  pub away :
      (figures_in register history level).away
      ≡ tally (λ earlier e. one (is_report level (root_sent register earlier) e.call && is_judged e.answer)) history
