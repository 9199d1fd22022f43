-- What each level allows of an offer, which absolute rules it fills, and what the functions ask of a memory and an offer. Assumes nothing.
use Rattle.std.specs.Prelude.{ℕ, ◌+◌, ◌≤◌, ◌<◌, min, ◌≡◌, Bool, true, false, cond, ◌&&◌, ◌||◌, List, [], ◌∷◌, map, length, set, eqb}
use Rattle.measures.specs.Ranges.{In, times, units, premiums, offers}
use Rattle.rules.specs.Amounts.{number_of}
use Rattle.rules.specs.Rules.{level_of, is_rate, added, ceiling}
use Rattle.rules.specs.Allowance.{allowance}
use Rattle.rules.specs.Units.{place_in}
use Rattle.machine.specs.Remaining.{rule_numbered, first_cell}
use Rattle.rules.specs.declared.Level.{Level}
use Rattle.rules.specs.declared.Level.TheVariants.{Firm, Root}
use Rattle.rules.specs.declared.Rule.{Rule}
use Rattle.rules.specs.declared.Account.{Account}
use Rattle.laws.specs.Folds.{every, any_of}
use Rattle.machine.specs.declared.Entry.{Entry}
use Rattle.rules.specs.Valid.{is_total, has_rate}
use Rattle.machine.specs.Entries.{are_ordered, recent}
use Rattle.machine.specs.State.{State, rules_in}
use Rattle.machine.specs.Offers.{counted, covers_offer, same_level, grant_of, level_trips, credited, longest}
use Rattle.state.specs.State.{stored, decode}
use Rattle.state.specs.Inner.Laid.{Laid, account_in, with_clock, with_locks, with_accounts}
use Rattle.daylog.specs.Inner.Reading.{window_reading}
use Rattle.locks.specs.Inner.Locks.{tripping}
use Rattle.register.specs.Register.{sent_at_place}
use Rattle.machine.specs.declared.Offer.{Offer}
use Rattle.machine.specs.Deeds.{granted, reported, filling}
use Rattle.machine.specs.Register.{are_different}
use Rattle.machine.specs.Locks.{tripped_by}
use Rattle.machine.specs.Step.{after}
use Rattle.grant.specs.declared.Levels.{Levels}
use Rattle.grant.specs.declared.Inside.{Inside}

-- the longest window of a state's rules, and its reading at a time
unfoldable pub inside_of : State → ℕ → Inside
inside_of s time = record { window = longest (rules_in s); read = window_reading (longest (rules_in s)) time s.log }

-- a rule of this level that covers the offer
unfoldable pub concerns : Offer → Level → Account → Bool
concerns o level a = same_level (level_of a.rule.scope) level && covers_offer o a.rule

-- what a rule allows of an offer
unfoldable pub allowed_by : List Entry → Offer → Account → ℕ
allowed_by log o a = allowance a.rule.limit (counted log o.time a) o.premium o.contracts

-- a number, or what the rule allows if that is less and the rule is of this level and covers the offer
unfoldable pub lowered : List Entry → Offer → Level → Account → ℕ → ℕ
lowered log o level a n = cond (concerns o level a) (min (allowed_by log o a) n) n

-- the least of the offer's contracts and the allowances of the level's rules that cover it
unfoldable pub least_at : List Entry → Offer → List Account → Level → ℕ
least_at log o [] level = o.contracts
least_at log o (a ∷ rest) level = lowered log o level a (least_at log o rest level)

-- an absolute rule whose total after the grant equals its limit
unfoldable pub fills_by : Offer → ℕ → Account → Bool
fills_by o grant a =
    cond (is_rate a.rule.kind) false (eqb (number_of a.total + added a.rule.limit o.premium grant) (ceiling a.rule.limit))

-- one of the level's absolute rules that cover the offer stands at its limit after the grant
unfoldable pub reached_at : Offer → ℕ → List Account → Level → Bool
reached_at o grant accounts level = any_of (λ a. concerns o level a && fills_by o grant a) accounts

-- a memory in which a state is laid out, its log in order of time, and an offer in range for it that is no earlier than any entry
pub record Fillable (xs : List ℕ) (o : Offer) : Type 0 where
  pub laid : Laid xs
  pub root : o.root < length (decode xs).part.profile.roots
  pub unit : In units o.unit
  pub premium : In premiums o.premium
  pub contracts : In offers o.contracts
  pub time : In times o.time
  pub ordered : are_ordered 0 o.time (decode xs).log ≡ true

-- each total of a state is in its range
abbrev pub are_totals : State → Bool
are_totals s = every (λ a. is_total a.rule a.total) s.part.accounts

-- where the account of rule i stands that an offer looks at, which is that for its unit; and so in a memory
abbrev pub faced_in : List Rule → Offer → ℕ → ℕ
faced_in rules o i = first_cell rules i + place_in (rule_numbered rules i).scope o.unit

abbrev pub faced_by : List ℕ → Offer → ℕ → ℕ
faced_by xs o i = faced_in (rules_in (decode xs)) o i

-- a memory in which a state is laid out, and a grant of an offer in range
pub record Creditable (xs : List ℕ) (o : Offer) (grant : ℕ) : Type 0 where
  pub laid : Laid xs
  pub unit : In units o.unit
  pub premium : o.premium ≤ premiums.most
  pub most : grant ≤ offers.most

-- what account i leaves of the cuts
pub record Lowered (xs : List ℕ) (o : Offer) (i : ℕ) (before after : Levels ℕ) : Type 0 where
  pub root : after.root ≡ lowered (decode xs).log o (Root o.root) (account_in xs i) before.root
  pub firm : after.firm ≡ lowered (decode xs).log o Firm (account_in xs i) before.firm

-- the least that the rules of the offer's root allow, and of the firm
pub record AreCuts (xs : List ℕ) (o : Offer) (cuts : Levels ℕ) : Type 0 where
  pub root : cuts.root ≡ least_at (decode xs).log o (decode xs).part.accounts (Root o.root)
  pub firm : cuts.firm ≡ least_at (decode xs).log o (decode xs).part.accounts Firm

-- account i of a memory is credited with a grant, and after tells whether it, or one before, stands at its limit
pub record Credited (o : Offer) (grant i : ℕ) (xs ys : List ℕ) (before after : Levels Bool) : Type 0 where
  pub memory : ys ≡ stored (with_accounts (decode xs) (set (decode xs).part.accounts i (credited o grant (account_in xs i)))) xs
  pub root : after.root ≡ (before.root || (concerns o (Root o.root) (account_in xs i) && fills_by o grant (account_in xs i)))
  pub firm : after.firm ≡ (before.firm || (concerns o Firm (account_in xs i) && fills_by o grant (account_in xs i)))

-- every account of a memory is credited with a grant, and after tells which levels have an absolute rule at its limit
pub record AllCredited (o : Offer) (grant : ℕ) (xs ys : List ℕ) (after : Levels Bool) : Type 0 where
  pub memory : ys ≡ stored (with_accounts (decode xs) (map (credited o grant) (decode xs).part.accounts)) xs
  pub root : after.root ≡ reached_at o grant (decode xs).part.accounts (Root o.root)
  pub firm : after.firm ≡ reached_at o grant (decode xs).part.accounts Firm

-- the log has a place for a grant of this offer
abbrev pub HasRoom : State → Offer → ℕ → Type 0
HasRoom s o grant = has_rate (rules_in s) ≡ true → 0 < grant → length (recent (longest (rules_in s)) o.time s.log) < 512

-- a state at the offer's time, with the trips of its root and of the firm
abbrev pub marked : State → Offer → Levels Bool → State
marked s o trips = with_locks (with_clock s o.time) (tripped_by (tripping trips.root trips.firm) o.root s.part.locks)

-- an offer with its cuts and its grant, for which the log has a place
pub record Ready (xs : List ℕ) (o : Offer) (grant : ℕ) (cuts : Levels ℕ) : Type 0 where
  pub asked : Fillable xs o
  pub totals : are_totals (decode xs) ≡ true
  pub levels : AreCuts xs o cuts
  pub least : grant ≡ grant_of (decode xs).log o (decode xs).part.accounts
  pub room : HasRoom (decode xs) o grant

-- the memory after a grant, and the levels that it trips
pub record Filled (xs : List ℕ) (o : Offer) (grant : ℕ) (ys : List ℕ) (trips : Levels Bool) : Type 0 where
  pub memory : ys ≡ stored (after (filling granted o grant) (decode xs)) xs
  pub root : trips.root ≡ level_trips granted (decode xs).log o grant (decode xs).part.accounts (Root o.root)
  pub firm : trips.firm ≡ level_trips granted (decode xs).log o grant (decode xs).part.accounts Firm

-- a report of contracts for the order at place i of the register, which it does not overdraw and for which the log has a place
pub record Returning (xs : List ℕ) (o : Offer) (i : ℕ) : Type 0 where
  pub asked : Fillable xs o
  pub totals : are_totals (decode xs) ≡ true
  pub different : are_different (decode xs).part.register ≡ true
  pub placed : i < length (decode xs).part.register
  pub within : o.contracts ≤ (sent_at_place (decode xs).part.register i).contracts.0
  pub allowed : 0 < (sent_at_place (decode xs).part.register i).reports
  pub room : HasRoom (decode xs) o o.contracts

-- the memory after a report for the order of an identity, and the levels that it trips
pub record Returned (xs : List ℕ) (o : Offer) (identity : ℕ) (ys : List ℕ) (trips : Levels Bool) : Type 0 where
  pub memory : ys ≡ stored (after (filling (reported identity) o o.contracts) (decode xs)) xs
  pub root : trips.root ≡ level_trips (reported identity) (decode xs).log o o.contracts (decode xs).part.accounts (Root o.root)
  pub firm : trips.firm ≡ level_trips (reported identity) (decode xs).log o o.contracts (decode xs).part.accounts Firm
