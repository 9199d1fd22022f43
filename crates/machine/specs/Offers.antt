-- An offer or a report: what is counted, the grant, the trips, and what a fill leaves of an account and of the log. Assumes nothing.
use Rattle.std.specs.Prelude.{ℕ, ◌+◌, min, max, Bool, true, false, cond, ◌&&◌, List, [], ◌∷◌, ◌++◌, map, ltb, eqb}
use Rattle.laws.specs.Folds.{keep, sum_of, any_of}
use Rattle.rules.specs.Amounts.{number_of, amount_in}
use Rattle.rules.specs.Rules.{level_of, covers, is_rate, counted_of, held, added}
use Rattle.rules.specs.Valid.{has_rate}
use Rattle.rules.specs.Allowance.{allowance, trips, overruns}
use Rattle.rules.specs.declared.Level.{Level}
use Rattle.rules.specs.declared.Level.TheVariants.{Firm, Root}
use Rattle.rules.specs.declared.Limit.{Limit}
use Rattle.rules.specs.declared.Kind.{Kind}
use Rattle.rules.specs.declared.Kind.TheVariants.{Rate, Absolute}
use Rattle.rules.specs.declared.Rule.{Rule}
use Rattle.rules.specs.declared.Account.{Account}
use Rattle.machine.specs.declared.Entry.{Entry}
use Rattle.machine.specs.declared.Offer.{Offer}
use Rattle.machine.specs.Entries.{entry_share, recent}
use Rattle.machine.specs.Deeds.{Source, granted, reported}

-- a rule's counted amount at a time
unfoldable pub counted : List Entry → ℕ → Account → ℕ
counted log time a = counted_of a.rule.kind (number_of a.total) (sum_of (entry_share a.rule time) log)

unfoldable pub covers_offer : Offer → Rule → Bool
covers_offer o rule = covers rule.scope o.root o.unit

-- a rule's limit, with what is counted against it at the offer's time
abbrev pub limit_with_count : List Entry → Offer → Account → Limit × ℕ
limit_with_count log o a = (a.rule.limit, counted log o.time a)

-- the limits of the rules that cover the offer: what the grant has to keep
unfoldable pub covering : List Entry → Offer → List Account → List (Limit × ℕ)
covering log o accounts = map (limit_with_count log o) (keep (λ a. covers_offer o a.rule) accounts)

-- the grant: the least allowance of the rules that cover the offer, or all of it if none does
unfoldable pub grant_of : List Entry → Offer → List Account → ℕ
grant_of log o [] = o.contracts
grant_of log o (a ∷ rest) =
    cond (covers_offer o a.rule)
    (min (allowance a.rule.limit (counted log o.time a) o.premium o.contracts) (grant_of log o rest))
    (grant_of log o rest)

-- two levels are the same
unfoldable pub same_level : Level → Level → Bool
same_level Firm Firm = true
same_level Firm (Root r) = false
same_level (Root r) Firm = false
same_level (Root r) (Root q) = eqb r q

-- a rule that covers a fill of so much trips on it, by what it counted before and by where the fill comes from
unfoldable pub trips_by : Source → Offer → ℕ → Rule → ℕ → Bool
trips_by granted o n rule counted = trips rule counted o.premium o.contracts n
trips_by (reported identity) o n rule counted = overruns rule counted o.premium n

-- a rule of this level that covers the fill trips on it
unfoldable pub level_trips : Source → List Entry → Offer → ℕ → List Account → Level → Bool
level_trips source log o n accounts level =
    any_of (λ a. same_level (level_of a.rule.scope) level && covers_offer o a.rule
    && trips_by source o n a.rule (counted log o.time a)) accounts

-- the total of an absolute rule that covers the fill rises, and is held
unfoldable pub credited : Offer → ℕ → Account → Account
credited o n a = record {
  rule = a.rule;
  total =
      cond (is_rate a.rule.kind) a.total
      (cond (covers_offer o a.rule)
      (amount_in a.rule.limit (held Absolute (number_of a.total + added a.rule.limit o.premium n))) a.total);
}

-- the longest window of the profile's rate rules
unfoldable pub window_of : Kind → ℕ
window_of (Rate window) = window
window_of Absolute = 0

unfoldable pub longest : List Rule → ℕ
longest [] = 0
longest (rule ∷ rest) = max (window_of rule.kind) (longest rest)

-- the entry of a fill: it counts for its root and for the firm
unfoldable pub entry_of : Offer → ℕ → Entry
entry_of o grant = record {
  time = o.time;
  root = o.root;
  unit = o.unit;
  premium = record { 0 = o.premium };
  contracts = record { 0 = grant };
  forroot = true;
  forfirm = true;
}

-- the log after a fill: with one above 0, and if the profile has a rate rule, old entries leave and the new one joins
unfoldable pub joined_log : List Rule → List Entry → Offer → ℕ → List Entry
joined_log rules log o grant =
    cond (has_rate rules && ltb 0 grant) (recent (longest rules) o.time log ++ (entry_of o grant ∷ [])) log
