-- The refusals of each call, in their order. Assumes nothing.
use Rattle.std.specs.Prelude.{ℕ, ◌+◌, Bool, not, cond, ◌&&◌, ◌||◌, List, [], ◌∷◌, ◌++◌, length, leb, ltb, eqb}
use Rattle.measures.specs.Ranges.{is_in, times, units, premiums, offers, identities, reports_asked}
use Rattle.machine.specs.declared.Offer.{Offer}
use Rattle.machine.specs.declared.Sent.{Sent}
use Rattle.machine.specs.Calls.{Call, order, lockout, offer, remaining, status, send, report, close}
use Rattle.machine.specs.State.{Part, State, rules_in}
use Rattle.machine.specs.Effects.{last_reset}
use Rattle.machine.specs.Locks.{verdict_of}
use Rattle.rules.specs.Valid.{has_rate}
use Rattle.machine.specs.Entries.{recent}
use Rattle.machine.specs.Offers.{grant_of, longest}
use Rattle.machine.specs.Remaining.{is_cell}
use Rattle.machine.specs.Register.{register_places, is_open, sent_at, kept_places}

-- the number of the first test that holds, 0 if none does
unfoldable pub first_of : List (Bool × ℕ) → ℕ
first_of [] = 0
first_of (f ∷ rest) = cond f.0 f.1 (first_of rest)

-- 12: a time out of range or below the clock
unfoldable pub bad_time : Part → ℕ → Bool
bad_time p time = not (is_in times time && leb p.clock time)

-- a root that the profile has
unfoldable pub is_root : Part → ℕ → Bool
is_root p root = ltb root (length p.profile.roots)

-- the use at a time: the entries inside the longest window, and the kept places; none without a rate rule
unfoldable pub used : State → ℕ → ℕ
used s time = cond (has_rate (rules_in s)) (length (recent (longest (rules_in s)) time s.log) + kept_places s.part.register) 0

-- 15: the offer is not locked out, its grant is above 0, the profile has a rate rule, and its one place is not free
unfoldable pub log_full : ℕ → State → Offer → Bool
log_full room s o =
    eqb (verdict_of s.part.locks o.root) 0 && ltb 0 (grant_of s.log o s.part.accounts) && has_rate (rules_in s)
    && leb room (used s o.time)

-- 12, 13, 14: what refuses an offer before the log is looked at
abbrev pub offer_faults : Part → Offer → List (Bool × ℕ)
offer_faults p o =
    (bad_time p o.time, 12)
    ∷ (not (is_root p o.root && is_in units o.unit), 13)
    ∷ (not (is_in premiums o.premium && is_in offers o.contracts), 14)
    ∷ []

-- 15 for a sending at verdict 0: the use and the places that it asks for pass the room
unfoldable pub no_places : ℕ → State → Offer → ℕ → Bool
no_places room s o reports =
    eqb (verdict_of s.part.locks o.root) 0 && has_rate (rules_in s) && ltb room (used s o.time + reports)

-- 19: more contracts than are open, or no report left
unfoldable pub overdrawn : List Sent → ℕ → ℕ → Bool
overdrawn register identity n = ltb (sent_at register identity).contracts.0 n || eqb (sent_at register identity).reports 0

-- the refusals of each call, in their order, on a log with so much room
unfoldable pub refusal_of : ℕ → State → Call → ℕ
refusal_of room s (order time root reset) =
    first_of ((bad_time s.part time, 12) ∷ (not (is_root s.part root && leb reset last_reset), 13) ∷ [])
refusal_of room s (lockout time level root) =
    first_of ((bad_time s.part time, 12) ∷ (not (leb level 1 && cond (eqb level 0) (is_root s.part root) (eqb root 0)), 13) ∷ [])
refusal_of room s (offer o) = first_of (offer_faults s.part o ++ ((log_full room s o, 15) ∷ []))
refusal_of room s (remaining time rule unit) =
    first_of ((bad_time s.part time, 12) ∷ (not (is_cell (rules_in s) rule unit), 13) ∷ [])
refusal_of room s status = 0
refusal_of room s (send o identity reports) =
    first_of
    ((bad_time s.part o.time, 12)
    ∷ (not (is_root s.part o.root && is_in units o.unit && is_in identities identity), 13)
    ∷ (not (is_in premiums o.premium && is_in offers o.contracts && is_in reports_asked reports), 14)
    ∷ (leb register_places (length s.part.register), 17)
    ∷ (is_open s.part.register identity, 18)
    ∷ (no_places room s o reports, 15)
    ∷ [])
refusal_of room s (report time identity n) =
    first_of
    ((bad_time s.part time, 12)
    ∷ (not (is_in identities identity), 13)
    ∷ (not (is_in offers n), 14)
    ∷ (not (is_open s.part.register identity), 18)
    ∷ (overdrawn s.part.register identity n, 19)
    ∷ [])
refusal_of room s (close time identity) =
    first_of ((bad_time s.part time, 12) ∷ (not (is_in identities identity), 13) ∷ (not (is_open s.part.register identity), 18) ∷ [])
