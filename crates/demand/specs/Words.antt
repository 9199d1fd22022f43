-- Demand 3 in words: what each answer of a history means, by what was done before it. Assumes nothing.
use Rattle.std.specs.Prelude.{ℕ, suc, ◌≤◌, ◌<◌, ◌≡◌, ◌↔◌, Bool, true, false}
use mathlib.Core.List.{List, ◌∷◌, map, Memᴰ}
use Rattle.laws.specs.Folds.{keep}
use Rattle.bits.specs.Locks.{count}
use Rattle.bits.specs.declared.Standing.{Standing}
use Rattle.rules.specs.Rules.{level_of, ceiling}
use Rattle.rules.specs.Units.{of_unit}
use Rattle.rules.specs.Allowance.{Largest, KeepsAll}
use Rattle.rules.specs.declared.Level.{Level}
use Rattle.rules.specs.declared.Level.TheVariants.{Firm, Root}
use Rattle.rules.specs.declared.Limit.{Limit}
use Rattle.rules.specs.declared.Rule.{Rule}
use Rattle.machine.specs.Answer.{Answer, Judged, Left, Standing as Stand}
use Rattle.machine.specs.declared.Offer.{Offer}
use Rattle.machine.specs.Effects.{effect_of}
use Rattle.machine.specs.Calls.{Call, order, lockout, offer, remaining, status, send, report, close}
use Rattle.machine.specs.Deeds.{granted, reported, Deed, filling, resetting}
use Rattle.machine.specs.Offers.{covers_offer}
use Rattle.machine.specs.Remaining.{rule_numbered}
use Rattle.demand.specs.Run.{Event}
use Rattle.demand.specs.Away.{sent_in, fill_in}
use Rattle.demand.specs.History.{lifts}
use Rattle.demand.specs.Locked.{counted_in, trips_on, locks_out, rule_trips, Since, LockedBy}
use Rattle.demand.specs.Answers.{one, left_in}

-- the event of a call and its answer
infixl 5 ◌answered◌
abbrev pub ◌answered◌ : Call → Answer → Event
call answered answer = record { call = call; answer = answer }

-- 1 exactly if the firm is locked, 2 exactly if it is not and the root is
pub record VerdictBy (rules : List Rule) (root : ℕ) (deeds : List Deed) (verdict : ℕ) : Type 0 where
  pub is_one : (verdict ≡ 1) ↔ LockedBy rules Firm deeds
  pub is_two : (verdict ≡ 2) ↔ ((LockedBy rules Firm deeds → ⊥) × LockedBy rules (Root root) deeds)

-- nothing is granted and nothing trips
abbrev pub Nothing : ℕ → Bool → Bool → Type 0
Nothing grant roottrip firmtrip = (grant ≡ 0) × (roottrip ≡ false) × (firmtrip ≡ false)

-- the limits of the rules that cover an offer, each with what counts against it on the offer's unit
abbrev pub limits_in : List Rule → List Deed → Offer → List (Limit × ℕ)
limits_in rules deeds o = map (λ rule. (rule.limit, counted_in (of_unit rule o.unit) deeds o.time)) (keep (covers_offer o) rules)

-- some rule of a level trips on a deed, judged from what was done before it on the unit of the fill
abbrev pub TripsBy : List Rule → Level → Deed → List Deed → Type 0
TripsBy rules level deed earlier =
    (rule : Rule) × Memᴰ rule rules × (level_of rule.scope ≡ level) × (trips_on rule deed earlier ≡ true)

-- k of the numbers below n have a property: a test that tells the property passes k of them
unfoldable pub Many : (ℕ → Type 0) → ℕ → ℕ → Type 0
Many P n k = (test : ℕ → Bool) × ((r : ℕ) → (test r ≡ true) ↔ P r) × (k ≡ count (λ r. one (test r)) n)

-- k is the lowest number below n that has a property, and n if none has
pub record Lowest (P : ℕ → Type 0) (n k : ℕ) : Type 0 where
  pub within : k ≤ n
  pub holds : k < n → P k
  pub none : (r : ℕ) → r < k → P r → ⊥

-- how the 64 roots stand: those that a trip locked, those that the user locked out, those that are locked, and the lowest of these
pub record StandingBy (rules : List Rule) (deeds : List Deed) (roots : Standing) : Type 0 where
  pub tripped : Many (λ r. Since (lifts (Root r)) (rule_trips rules (Root r)) deeds) 64 roots.tripped
  pub user : Many (λ r. Since (lifts (Root r)) (λ deed earlier. locks_out (Root r) deed) deeds) 64 roots.user
  pub locked : Many (λ r. LockedBy rules (Root r) deeds) 64 roots.locked
  pub lowest : Lowest (λ r. LockedBy rules (Root r) deeds) 64 roots.lowest

-- what an event means, by what was done before it
pub record Words (rules : List Rule) (event : Event) (deeds : List Deed) : Type 0 where
  -- an order's verdict, after its reset
  pub orders :
      {time root reset verdict grant : ℕ} {roottrip firmtrip : Bool}
      → event ≡ (order time root reset answered Judged verdict grant roottrip firmtrip)
      → VerdictBy rules root (resetting time root (effect_of reset) ∷ deeds) verdict
  -- an offer's verdict
  pub offers :
      {o : Offer} {verdict grant : ℕ} {roottrip firmtrip : Bool} → event ≡ (offer o answered Judged verdict grant roottrip firmtrip)
      → VerdictBy rules o.root deeds verdict
  -- a verdict above 0 has grant 0 and no trips, and so has every answer to an order or a lockout
  pub locked_out :
      {call : Call} {verdict grant : ℕ} {roottrip firmtrip : Bool} → event ≡ (call answered Judged (suc verdict) grant roottrip firmtrip)
      → Nothing grant roottrip firmtrip
  pub ordered :
      {time root reset verdict grant : ℕ} {roottrip firmtrip : Bool}
      → event ≡ (order time root reset answered Judged verdict grant roottrip firmtrip) → Nothing grant roottrip firmtrip
  pub lockouts :
      {time level root verdict grant : ℕ} {roottrip firmtrip : Bool}
      → event ≡ (lockout time level root answered Judged verdict grant roottrip firmtrip) → (verdict ≡ 0) × Nothing grant roottrip firmtrip
  -- with verdict 0 the grant is the largest number that keeps, on the offer's unit, the limit of every rule that covers the offer
  pub grants :
      {o : Offer} {grant : ℕ} {roottrip firmtrip : Bool} → event ≡ (offer o answered Judged 0 grant roottrip firmtrip)
      → Largest (KeepsAll (limits_in rules deeds o) o.premium) o.contracts grant
  -- and the two trips are exactly those that the fill brings on
  pub root_trips :
      {o : Offer} {grant : ℕ} {roottrip firmtrip : Bool} → event ≡ (offer o answered Judged 0 grant roottrip firmtrip)
      → (roottrip ≡ true) ↔ TripsBy rules (Root o.root) (filling granted o grant) deeds
  pub firm_trips :
      {o : Offer} {grant : ℕ} {roottrip firmtrip : Bool} → event ≡ (offer o answered Judged 0 grant roottrip firmtrip)
      → (firmtrip ≡ true) ↔ TripsBy rules Firm (filling granted o grant) deeds
  -- where something is granted, all that each of these rules then counts on the offer's unit, reports included, is within its limit
  pub within :
      {o : Offer} {grant : ℕ} {roottrip firmtrip : Bool} → event ≡ (offer o answered Judged 0 grant roottrip firmtrip) → 0 < grant
      → (rule : Rule) → Memᴰ rule rules → covers_offer o rule ≡ true
      → counted_in (of_unit rule o.unit) (filling granted o grant ∷ deeds) o.time ≤ ceiling rule.limit
  -- an order sent away is judged as an order without reset is, with grant 0 and no trips
  pub sendings :
      {o : Offer} {identity reports verdict grant : ℕ} {roottrip firmtrip : Bool}
      → event ≡ (send o identity reports answered Judged verdict grant roottrip firmtrip)
      → VerdictBy rules o.root deeds verdict × Nothing grant roottrip firmtrip
  -- a report has verdict 0, locked or not, and its contracts as grant
  pub reports :
      {time identity n verdict grant : ℕ} {roottrip firmtrip : Bool}
      → event ≡ (report time identity n answered Judged verdict grant roottrip firmtrip) → (verdict ≡ 0) × (grant ≡ n)
  -- and the two trips are exactly those that it brings on, at the root, unit and premium that were sent
  pub report_root_trips :
      {time identity n verdict grant : ℕ} {roottrip firmtrip : Bool}
      → event ≡ (report time identity n answered Judged verdict grant roottrip firmtrip)
      → (roottrip ≡ true) ↔ TripsBy rules (Root (sent_in identity deeds).root) (filling (reported identity) (fill_in deeds time identity n) n) deeds
  pub report_firm_trips :
      {time identity n verdict grant : ℕ} {roottrip firmtrip : Bool}
      → event ≡ (report time identity n answered Judged verdict grant roottrip firmtrip)
      → (firmtrip ≡ true) ↔ TripsBy rules Firm (filling (reported identity) (fill_in deeds time identity n) n) deeds
  -- a closing has verdict 0, grant 0 and no trips
  pub closings :
      {time identity verdict grant : ℕ} {roottrip firmtrip : Bool}
      → event ≡ (close time identity answered Judged verdict grant roottrip firmtrip) → (verdict ≡ 0) × Nothing grant roottrip firmtrip
  -- what remains is the limit less what counts for the rule on the unit asked for, 0 if more counts
  pub remains : {time rule unit left : ℕ} → event ≡ (remaining time rule unit answered Left left) → left ≡ left_in (rule_numbered rules rule) unit deeds time
  -- Status' four numbers
  pub stands : {roots : Standing} → event ≡ (status answered Stand roots) → StandingBy rules deeds roots
