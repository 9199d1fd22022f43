-- The steps of a fill: the totals, then the log, then for a report the register, then clock and trips. Together they leave what the machine does.
-- Assumes nothing.
use Prim.Native.Nat.{ℕ, ◌≤◌, ◌<◌, min}
use native.Mathlib.Omega.{arith}
use mathlib.Core.Path.{◌≡◌, sym, ap, ap₂, ◌∙◌, subst}
use mathlib.Core.Bool.{Bool, true, ◌&&◌, ◌||◌}
use mathlib.Core.List.{List, map}
use lib.ListN.{length}
use lib.Dec.{ltb, eqb}
use Rattle.measures.specs.Ranges.{offers}
use Rattle.rules.proofs.Held.{ceiling-low}
use Rattle.rules.specs.declared.Level.{Level}
use Rattle.rules.specs.declared.Level.TheVariants.{Firm, Root}
use Rattle.machine.specs.Entries.{are_ordered}
use Rattle.machine.specs.State.{State, Locks, rules_in, roots_in}
use Rattle.machine.specs.Offers.{joined_log, credited, level_trips}
use Rattle.state.specs.State.{stored, decode}
use Rattle.state.specs.Inner.Laid.{Laid, account_in, with_clock, with_locks, with_register, with_log, with_accounts}
use Rattle.state.specs.Inner.Tests.{register_part, put_register}
use Rattle.state.proofs.Laid.{laid-orders, laid-sent, laid-in-range}
use Rattle.state.proofs.After.{Holds, held-state, held-laid, step-on, register-after, fits-clock, fits-register}
use Rattle.state.proofs.Done.{fits_all}
use Rattle.locks.proofs.Numbers.{trips-told}
use Rattle.machine.specs.declared.Offer.{Offer}
use Rattle.machine.specs.declared.Sent.{Sent}
use Rattle.machine.specs.Deeds.{Source, granted, reported, filling, clock_after}
use Rattle.machine.specs.Step.{after, part_after, accounts_after, locks_after, log_after}
use Rattle.machine.proofs.Grants.{grant-le}
use Rattle.grant.specs.Inner.Grant.{inside_of, least_at, reached_at, Fillable, HasRoom, AllCredited, marked, Ready, Returning}
use Rattle.grant.specs.declared.Levels.{Levels}
use Rattle.grant.specs.declared.Inside.{Inside}
use Rattle.grant.proofs.Trip.{grant-cuts, level-trips}
use Rattle.grant.proofs.Credits.{credit-fair}
use Rattle.grant.proofs.Reports.{report-trips}
use Rattle.grant.proofs.Joined.{fits-joined}
use Rattle.machine.specs.Register.{used_up, are_different, register_after, register_by}
use Rattle.machine.proofs.Register.{registered-used}
use Rattle.register.specs.Register.{register_numbers, register_in, RegisterHeld, sent_at_place}

-- a state with its totals after a grant, and with its log after it
abbrev pub paid : Offer → ℕ → State → State
paid o grant s = with_accounts s (map (credited o grant) s.part.accounts)

abbrev pub logged : Offer → ℕ → State → State
logged o grant s = with_log s (joined_log (rules_in s) s.log o grant)

-- a state with its register after a fill
abbrev pub used : Source → ℕ → State → State
used source n s = with_register s (register_by source n s.part.register)

-- the clock's number is stored
pub clock-holds : {xs ys : List ℕ} {time : ℕ} → Laid xs → ys ≡ stored (with_clock (decode xs) time) xs → Holds (with_clock (decode xs) time) xs ys
clock-holds {time = time} h e = record { fits = fits-clock h.fits time; is = e }

-- so many contracts of an offer to be filled, for which the log has a place
pub record Filling (xs : List ℕ) (o : Offer) (n : ℕ) : Type 0 where
  pub asked : Fillable xs o
  pub most : n ≤ offers.most
  pub room : HasRoom (decode xs) o n

module _ {xs : List ℕ} {o : Offer} {n : ℕ} (f : Filling xs o n) where
  paid-room : HasRoom (paid o n (decode xs)) o n
  unfolding rules_in
  paid-room = f.room

  -- the totals
  pub paid-holds : {ys : List ℕ} {reached : Levels Bool} → AllCredited o n xs ys reached → Holds (paid o n (decode xs)) xs ys
  paid-holds c = record { fits = fits_all (credit-fair o n) f.asked.laid.fits; is = c.memory }

  module _ {ys : List ℕ} (h : Holds (paid o n (decode xs)) xs ys) where
    pub paid-filling : Filling ys o n
    paid-filling = record {
      asked = record {
        laid = held-laid h;
        root = subst (λ (s : State). o.root < length s.part.profile.roots) (sym (held-state h)) f.asked.root;
        unit = f.asked.unit;
        premium = f.asked.premium;
        contracts = f.asked.contracts;
        time = f.asked.time;
        ordered = subst (λ (s : State). are_ordered 0 o.time s.log ≡ true) (sym (held-state h)) f.asked.ordered;
      };
      most = f.most;
      room = subst (λ (s : State). HasRoom s o n) (sym (held-state h)) paid-room;
    }

    pub paid-inside : {inside : Inside} → inside ≡ inside_of (decode xs) o.time → inside ≡ inside_of (decode ys) o.time
    unfolding inside_of rules_in
    paid-inside e = e ∙ ap (λ (s : State). inside_of s o.time) (sym (held-state h))

    -- the log
    pub logged-holds : {zs : List ℕ} → zs ≡ stored (logged o n (decode ys)) ys → Holds (logged o n (paid o n (decode xs))) xs zs
    logged-holds e = record {
      fits = fits-joined (paid o n (decode xs)) h.fits f.asked f.asked.root f.most paid-room;
      is = step-on h (logged o n) e;
    }

  -- the register: a grant leaves it
  pub granted-holds : {zs : List ℕ} → Holds (logged o n (paid o n (decode xs))) xs zs → Holds (used granted n (logged o n (paid o n (decode xs)))) xs zs
  unfolding register_by
  granted-holds h = h

  -- clock and trips
  module _ (source : Source) {zs : List ℕ} (h : Holds (used source n (logged o n (paid o n (decode xs)))) xs zs) where
    pub used-root : o.root < length (decode zs).part.profile.roots
    used-root = subst (λ (s : State). o.root < length s.part.profile.roots) (sym (held-state h)) f.asked.root

    -- all together
    module _ {trips : Levels Bool} (root : trips.root ≡ level_trips source (decode xs).log o n (decode xs).part.accounts (Root o.root))
        (firm : trips.firm ≡ level_trips source (decode xs).log o n (decode xs).part.accounts Firm) where
      filled_is : marked (used source n (logged o n (paid o n (decode xs)))) o trips ≡ after (filling source o n) (decode xs)
      unfolding after part_after clock_after accounts_after locks_after log_after register_after rules_in
      filled_is =
          let s = decode xs in
          ap (λ (l : Locks). with_locks (with_clock (used source n (logged o n (paid o n s))) o.time) l)
          (trips-told (level_trips source s.log o n s.part.accounts) o.root s.part.locks root firm)

      pub filled-memory : {ws : List ℕ} → ws ≡ stored (marked (decode zs) o trips) zs → ws ≡ stored (after (filling source o n) (decode xs)) xs
      filled-memory e = step-on h (λ t. marked t o trips) e ∙ ap (λ (s : State). stored s xs) filled_is

-- a grant, and what it trips
module _ {xs : List ℕ} {o : Offer} {grant : ℕ} {cuts : Levels ℕ} (r : Ready xs o grant cuts) where
  pub ready-filling : Filling xs o grant
  ready-filling = record {
    asked = r.asked;
    most = omega (arith, r.least, grant-le (decode xs).log o (decode xs).part.accounts, r.asked.contracts.1);
    room = r.room;
  }

  grant-least : grant ≡ min (least_at (decode xs).log o (decode xs).part.accounts (Root o.root)) (least_at (decode xs).log o (decode xs).part.accounts Firm)
  grant-least = r.least ∙ grant-cuts (decode xs).log o (decode xs).part.accounts

  trips-by : (level : Level) {b : Bool} {cut : ℕ} → b ≡ reached_at o grant (decode xs).part.accounts level
      → cut ≡ least_at (decode xs).log o (decode xs).part.accounts level → grant ≤ least_at (decode xs).log o (decode xs).part.accounts level
      → (b || (ltb grant o.contracts && eqb cut grant)) ≡ level_trips granted (decode xs).log o grant (decode xs).part.accounts level
  trips-by level reached cut below =
      ap₂ (λ (b : Bool) (n : ℕ). b || (ltb grant o.contracts && eqb n grant)) reached cut
      ∙ sym (level-trips (decode xs).log o grant (decode xs).part.accounts level below)

  module _ {ys : List ℕ} {reached : Levels Bool} (c : AllCredited o grant xs ys reached) where
    pub trips-root : (reached.root || (ltb grant o.contracts && eqb cuts.root grant))
        ≡ level_trips granted (decode xs).log o grant (decode xs).part.accounts (Root o.root)
    trips-root = trips-by (Root o.root) c.root r.levels.root (omega (arith, grant-least))

    pub trips-firm : (reached.firm || (ltb grant o.contracts && eqb cuts.firm grant)) ≡ level_trips granted (decode xs).log o grant (decode xs).part.accounts Firm
    trips-firm = trips-by Firm c.firm r.levels.firm (omega (arith, grant-least))

-- a report, and what it leaves of the register
module _ {xs : List ℕ} {o : Offer} {i : ℕ} (r : Returning xs o i) where
  pub returning-filling : Filling xs o o.contracts
  returning-filling = record { asked = r.asked; most = r.asked.contracts.1; room = r.room }

  -- what it trips
  pub returning-trips : (level : Level) {reached : Bool} {cut : ℕ} → reached ≡ reached_at o o.contracts (decode xs).part.accounts level
      → cut ≡ least_at (decode xs).log o (decode xs).part.accounts level
      → (identity : ℕ) → (reached || ltb cut o.contracts) ≡ level_trips (reported identity) (decode xs).log o o.contracts (decode xs).part.accounts level
  returning-trips level =
      report-trips (decode xs).log o (omega (arith, r.asked.contracts.0)) level (decode xs).part.accounts
      (λ k l. ceiling-low (account_in xs k).rule.limit (laid-in-range r.asked.laid l).0)

  module _ {zs : List ℕ} (h : Holds (logged o o.contracts (paid o o.contracts (decode xs))) xs zs) where
    same-register : register_in (register_part zs) ≡ (decode xs).part.register
    same-register = laid-sent (held-laid h) ∙ ap (λ (s : State). s.part.register) (held-state h)

    -- the order at place i is as it was
    pub still_placed : RegisterHeld (register_part zs) × (are_different (register_in (register_part zs)) ≡ true) × (i < length (register_in (register_part zs)))
        × (o.contracts ≤ (sent_at_place (register_in (register_part zs)) i).contracts.0) × (0 < (sent_at_place (register_in (register_part zs)) i).reports)
    still_placed = rw same-register (laid-orders (held-laid h), r.different, r.placed, r.within, r.allowed)

    pub reported-holds : {part : List ℕ}
        → part ≡ register_numbers (map (used_up (sent_at_place (register_in (register_part zs)) i).identity o.contracts) (register_in (register_part zs)))
        → Holds (used (reported (sent_at_place (decode xs).part.register i).identity) o.contracts (logged o o.contracts (paid o o.contracts (decode xs)))) xs (put_register zs part)
    unfolding register_by roots_in
    reported-holds e =
        let register = (decode xs).part.register in
        let uses : List Sent → List Sent = λ sent. map (used_up (sent_at_place sent i).identity o.contracts) sent in
        record {
          fits = fits-register h.fits (registered-used (record { few = h.fits.few; registered = h.fits.sent; different = r.different }) (sent_at_place register i).identity o.contracts);
          is = step-on h (λ (s : State). with_register s (uses s.part.register)) (register-after (held-laid h) (uses (decode zs).part.register) (e ∙ ap (λ (l : List Sent). register_numbers (uses l)) (laid-sent (held-laid h))));
        }
