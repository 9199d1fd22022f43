-- The register of orders sent away: which are open, what a report counts as, what each deed leaves of it, and the places that it keeps.
-- Assumes nothing.
use Rattle.std.specs.Prelude.{ℕ, ◌-◌, Bool, true, not, cond, ◌&&◌, List, [], ◌∷◌, ◌++◌, map, ltb, eqb}
use Rattle.laws.specs.Folds.{any_of, keep, sum_of}
use Rattle.measures.specs.Ranges.{is_in, units, premiums, identities, contracts_open, reports_left}
use Rattle.machine.specs.declared.Offer.{Offer}
use Rattle.machine.specs.declared.Sent.{Sent}
use Rattle.machine.specs.Deeds.{Source, granted, reported, Deed, nothing, passing, filling, resetting, locking_out, sending, closing}

-- the number of places in the register
abbrev pub register_places : ℕ
register_places = 64

unfoldable pub has_identity : ℕ → Sent → Bool
has_identity identity sent = eqb sent.identity identity

-- an order of this identity is open
unfoldable pub is_open : List Sent → ℕ → Bool
is_open register identity = any_of (has_identity identity) register

-- stands for an order that there is none of: `refusal_of` lets no call reach it
unfoldable pub no_sent : Sent
no_sent = record { identity = 0; root = 0; unit = 0; premium = record { 0 = 0 }; contracts = record { 0 = 0 }; reports = 0 }

-- the order of an identity
unfoldable pub sent_at : List Sent → ℕ → Sent
sent_at [] identity = no_sent
sent_at (sent ∷ rest) identity = cond (has_identity identity sent) sent (sent_at rest identity)

-- a report of n contracts as a fill: of the order's root and unit, at its premium
unfoldable pub fill_of : List Sent → ℕ → ℕ → ℕ → Offer
fill_of register time identity n = record {
  time = time;
  root = (sent_at register identity).root;
  unit = (sent_at register identity).unit;
  premium = (sent_at register identity).premium.0;
  contracts = n;
}

-- the order that a sending registers, all its contracts open
unfoldable pub sent_of : Offer → ℕ → ℕ → Sent
sent_of o identity reports = record {
  identity = identity;
  root = o.root;
  unit = o.unit;
  premium = record { 0 = o.premium };
  contracts = record { 0 = o.contracts };
  reports = reports;
}

-- a report of n contracts for an identity leaves so many fewer open, and uses one of the order's reports
unfoldable pub used_up : ℕ → ℕ → Sent → Sent
used_up identity n sent = record {
  identity = sent.identity;
  root = sent.root;
  unit = sent.unit;
  premium = sent.premium;
  contracts = record { 0 = cond (has_identity identity sent) (sent.contracts.0 - n) sent.contracts.0 };
  reports = cond (has_identity identity sent) (sent.reports - 1) sent.reports;
}

-- a fill that the unit granted leaves the register
unfoldable pub register_by : Source → ℕ → List Sent → List Sent
register_by granted n register = register
register_by (reported identity) n register = map (used_up identity n) register

-- the register after a deed: no reset touches it
unfoldable pub register_after : Deed → List Sent → List Sent
register_after nothing register = register
register_after (passing time) register = register
register_after (filling source o n) register = register_by source n register
register_after (resetting time root effect) register = register
register_after (locking_out time level) register = register
register_after (sending time sent) register = register ++ (sent ∷ [])
register_after (closing time identity) register = keep (λ sent. not (has_identity identity sent)) register

-- the places that it keeps free in the log of a profile with a rate rule: as many as reports are still allowed
unfoldable pub kept_places : List Sent → ℕ
kept_places register = sum_of (λ sent. sent.reports) register

-- every number of an order in its range, in a state with so many roots
unfoldable pub is_sent : ℕ → Sent → Bool
is_sent roots sent =
    is_in identities sent.identity && ltb sent.root roots && is_in units sent.unit && is_in premiums sent.premium.0
    && is_in contracts_open sent.contracts.0 && is_in reports_left sent.reports

-- no two orders of one identity
unfoldable pub are_different : List Sent → Bool
are_different [] = true
are_different (sent ∷ rest) = not (is_open rest sent.identity) && are_different rest
