-- What each call is answered that is not refused, by the rules and what was done before. Assumes nothing.
use Rattle.std.specs.Prelude.{ℕ, zero, suc, ◌-◌, min, ◌≡◌, Bool, true, false, not, cond, ◌&&◌, ◌||◌, List, [], ◌∷◌}
use Rattle.bits.specs.Locks.{count, first}
use Rattle.bits.specs.declared.Standing.{Standing}
use Rattle.rules.specs.Rules.{ceiling}
use Rattle.rules.specs.Units.{of_unit}
use Rattle.rules.specs.Allowance.{allowance}
use Rattle.rules.specs.declared.Level.{Level}
use Rattle.rules.specs.declared.Level.TheVariants.{Firm, Root}
use Rattle.rules.specs.declared.Rule.{Rule}
use Rattle.machine.specs.Answer.{Answer, Refused, Judged, Left, Standing as Stand}
use Rattle.machine.specs.Judge.{is_refusal}
use Rattle.machine.specs.declared.Offer.{Offer}
use Rattle.machine.specs.Effects.{effect_of}
use Rattle.machine.specs.Calls.{Call, order, lockout, offer, remaining, status, send, report, close}
use Rattle.machine.specs.Deeds.{Source, granted, reported, Deed, filling, resetting, clock_after}
use Rattle.machine.specs.Offers.{covers_offer}
use Rattle.machine.specs.Remaining.{rule_numbered}
use Rattle.demand.specs.Run.{Event}
use Rattle.demand.specs.Away.{sends, closes, fill_in}
use Rattle.demand.specs.History.{deed_of, deeds_of, contracts_of, lifts}
use Rattle.demand.specs.Locked.{counted_in, locks_out, rule_trips, locks}

-- `Since` as a test: the newest deed does not lift the mark, and sets it or was done where it stood
unfoldable pub since : (Deed → Bool) → (Deed → List Deed → Bool) → List Deed → Bool
since lift sets [] = false
since lift sets (deed ∷ earlier) = not (lift deed) && (sets deed earlier || since lift sets earlier)

-- a level is tripped
abbrev pub tripped_in : List Rule → Level → List Deed → Bool
tripped_in rules level deeds = since (lifts level) (rule_trips rules level) deeds

-- a level is locked out by the user
abbrev pub by_user_in : Level → List Deed → Bool
by_user_in level deeds = since (lifts level) (λ deed earlier. locks_out level deed) deeds

-- a level is locked: `LockedBy` as a test
abbrev pub locked_in : List Rule → Level → List Deed → Bool
locked_in rules level deeds = since (lifts level) (locks rules level) deeds

-- an order of an identity is open: one was sent, and none since has closed it
abbrev pub open_in : ℕ → List Deed → Bool
open_in identity deeds = since (closes identity) (λ deed earlier. sends identity deed) deeds

-- 1 if the firm is locked, else 2 if the root is, else 0
unfoldable pub verdict_in : List Rule → ℕ → List Deed → ℕ
verdict_in rules root deeds = cond (locked_in rules Firm deeds) 1 (cond (locked_in rules (Root root) deeds) 2 0)

-- the least allowance of the rules that cover the offer, by what counts for them on the offer's unit
unfoldable pub grant_in : List Deed → Offer → List Rule → ℕ
grant_in deeds o [] = o.contracts
grant_in deeds o (rule ∷ rest) =
    cond (covers_offer o rule)
    (min (allowance rule.limit (counted_in (of_unit rule o.unit) deeds o.time) o.premium o.contracts) (grant_in deeds o rest))
    (grant_in deeds o rest)

-- 1 if a test holds
abbrev pub one : Bool → ℕ
one b = cond b 1 0

-- how the roots stand
unfoldable pub standing_in : List Rule → List Deed → Standing
standing_in rules deeds = record {
  tripped = count (λ r. one (tripped_in rules (Root r) deeds)) 64;
  user = count (λ r. one (by_user_in (Root r) deeds)) 64;
  locked = count (λ r. one (locked_in rules (Root r) deeds)) 64;
  lowest = first (λ r. one (locked_in rules (Root r) deeds)) 64;
}

-- a fill, granted or reported, with its trips
unfoldable pub filled_answer : List Rule → List Deed → Source → Offer → ℕ → Answer
filled_answer rules deeds source o n =
    Judged 0 n (rule_trips rules (Root o.root) (filling source o n) deeds) (rule_trips rules Firm (filling source o n) deeds)

-- an offer by its verdict: granted, or locked out
unfoldable pub offer_answer : List Rule → List Deed → Offer → ℕ → Answer
offer_answer rules deeds o zero = filled_answer rules deeds granted o (grant_in deeds o rules)
offer_answer rules deeds o (suc verdict) = Judged (suc verdict) 0 false false

-- what remains of a rule's limit on a unit: the limit less what counts there, 0 if more counts
unfoldable pub left_in : Rule → ℕ → List Deed → ℕ → ℕ
left_in rule unit deeds time = ceiling rule.limit - counted_in (of_unit rule unit) deeds time

-- what a call is answered that is not refused, by the rules and what was done before it
unfoldable pub answer_in : List Rule → List Deed → Call → Answer
answer_in rules deeds (order time root reset) =
    Judged (verdict_in rules root (resetting time root (effect_of reset) ∷ deeds)) 0 false false
answer_in rules deeds (lockout time level root) = Judged 0 0 false false
answer_in rules deeds (offer o) = offer_answer rules deeds o (verdict_in rules o.root deeds)
answer_in rules deeds (remaining time rule unit) = Left (left_in (rule_numbered rules rule) unit deeds time)
answer_in rules deeds status = Stand (standing_in rules deeds)
answer_in rules deeds (send o identity reports) = Judged (verdict_in rules o.root deeds) 0 false false
answer_in rules deeds (report time identity n) = filled_answer rules deeds (reported identity) (fill_in deeds time identity n) n
answer_in rules deeds (close time identity) = Judged 0 0 false false

-- the contracts that an answer has as its grant
unfoldable pub granted_by : Answer → ℕ
granted_by (Refused n) = 0
granted_by (Judged verdict grant roottrip firmtrip) = grant
granted_by (Left n) = 0
granted_by (Stand roots) = 0

-- the clock after a call that is not refused: a call with a time, Remaining apart, sets it
unfoldable pub sets_to : Call → ℕ → ℕ
sets_to (order time root reset) clock = time
sets_to (lockout time level root) clock = time
sets_to (offer o) clock = o.time
sets_to (remaining time rule unit) clock = clock
sets_to status clock = clock
sets_to (send o identity reports) clock = o.time
sets_to (report time identity n) clock = time
sets_to (close time identity) clock = time

-- the clock that a history leaves
unfoldable pub clock_of : List Event → ℕ
clock_of [] = 0
clock_of (event ∷ earlier) = cond (is_refusal event.answer) (clock_of earlier) (sets_to event.call (clock_of earlier))

-- what is promised of one event, by what was done before it
pub record Told (rules : List Rule) (event : Event) (deeds : List Deed) : Type 0 where
  -- its answer, unless it was refused, is the one that the rules and the deeds before tell
  pub told : is_refusal event.answer ≡ false → event.answer ≡ answer_in rules deeds event.call
  -- it sets the clock, unless it was refused
  pub timed :
      (clock : ℕ)
      → clock_after (deed_of deeds event.call event.answer) clock ≡ cond (is_refusal event.answer) clock (sets_to event.call clock)
  -- what it answered as grant is in the deeds that are summed
  pub summed : contracts_of (deed_of deeds event.call event.answer) ≡ granted_by event.answer

-- each event of a history, with what was done before it
unfoldable pub Each : (Event → List Deed → Type 0) → List Event → Type 0
Each P [] = Unit {0}
Each P (event ∷ earlier) = P event (deeds_of earlier) × Each P earlier
