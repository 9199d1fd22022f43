-- The grant is the largest number that keeps every limit that covers the offer, and what the log counts for a rule fits 64 bits. Assumes nothing.
use Prim.Native.Nat.{ℕ, ◌*◌, ◌≤◌, ◌<◌, min}
use mathlib.Core.Path.{◌≡◌, refl, ap}
use mathlib.Core.Bool.{Bool, true, false, cond, ◌&&◌, false≢true}
use mathlib.Core.List.{List, [], ◌∷◌, map}
use lib.ListN.{length}
use native.Mathlib.Omega.{arith}
use Rattle.laws.proofs.Tests.{tests}
use Rattle.rules.specs.Rules.{level_of, covers, counts, share}
use Rattle.rules.specs.Allowance.{Largest, Keeps, All, KeepsAll, allowance, least_of}
use Rattle.rules.specs.declared.Limit.{Limit}
use Rattle.rules.specs.declared.Rule.{Rule}
use Rattle.rules.specs.declared.Account.{Account}
use Rattle.rules.proofs.Laws.{allowance-keeps, added-most, grant-largest as least-largest}
use Rattle.laws.specs.Folds.{every, keep, sum_of}
use Rattle.machine.specs.declared.Entry.{Entry}
use Rattle.machine.specs.Entries.{is_entry, flag_of, entry_share}
use Rattle.machine.specs.Offers.{counted, covers_offer, limit_with_count, covering, grant_of}
use Rattle.machine.specs.declared.Offer.{Offer}
use Rattle.machine.proofs.Lists.{sum-most}

module _ (log : List Entry) (o : Offer) where
  -- what such a limit allows of the offer
  abbrev pub allowed : Limit × ℕ → ℕ
  allowed l = allowance l.0 l.1 o.premium o.contracts

  -- the grant is the least of what they allow
  pub least-of : (accounts : List Account) → grant_of log o accounts ≡ least_of o.contracts (map allowed (covering log o accounts))
  unfolding grant_of least_of covering keep
  least-of [] = refl
  least-of (a ∷ rest) = go (covers_offer o a.rule) (keep (λ b. covers_offer o b.rule) rest) (least-of rest)
    where
      go : (b : Bool) (more : List Account) {n : ℕ} → n ≡ least_of o.contracts (map allowed (map (limit_with_count log o) more))
          → cond b (min (allowed (limit_with_count log o a)) n) n ≡ least_of o.contracts (map allowed (map (limit_with_count log o) (cond b (a ∷ more) more)))
      go true more e = ap (min (allowed (limit_with_count log o a))) e
      go false more e = e

  -- the grant is the largest number up to the offer that keeps every covering limit
  pub grant-largest : (accounts : List Account) → Largest (KeepsAll (covering log o accounts) o.premium) o.contracts (grant_of log o accounts)
  grant-largest accounts = rw (least-of accounts) (least-largest (covering log o accounts) o.premium o.contracts)

  pub grant-le : (accounts : List Account) → grant_of log o accounts ≤ o.contracts
  grant-le accounts = (grant-largest accounts).within

  -- what is within the grant is within what the first rule allows, if it covers the offer, and within the grant of the others
  pub grant-first : (n : ℕ) (a : Account) (rest : List Account) → n ≤ grant_of log o (a ∷ rest)
      → (covers_offer o a.rule ≡ true → n ≤ allowed (limit_with_count log o a)) × (n ≤ grant_of log o rest)
  unfolding grant_of
  grant-first n a rest = go (covers_offer o a.rule)
    where
      go : (b : Bool) → n ≤ cond b (min (allowed (limit_with_count log o a)) (grant_of log o rest)) (grant_of log o rest)
          → (b ≡ true → n ≤ allowed (limit_with_count log o a)) × (n ≤ grant_of log o rest)
      go true h = (λ e. omega arith, omega arith)
      go false h = (λ e. absurd (false≢true e), h)

  -- what is within the grant keeps the limit of each rule that covers the offer
  pub grant-fits : (n : ℕ) → 0 < n → (accounts : List Account) → n ≤ grant_of log o accounts
      → All (λ a. covers_offer o a.rule ≡ true → Keeps a.rule.limit (counted log o.time a) o.premium n) accounts
  grant-fits n pos [] h = tt
  grant-fits n pos (a ∷ rest) h =
      let f = grant-first n a rest h in (
        λ e. allowance-keeps a.rule.limit (counted log o.time a) o.premium o.contracts n pos (f.0 e),
        grant-fits n pos rest f.1,
      )

-- the most that an entry counts for a rule: the highest premium times the most contracts
abbrev pub most_share : ℕ
most_share = 100_000_000_000_000

share-most : (roots : ℕ) (rule : Rule) (time : ℕ) (e : Entry) → is_entry roots e ≡ true → entry_share rule time e ≤ most_share
unfolding entry_share share is_entry
share-most roots rule time e h =
    go (flag_of (level_of rule.scope) e) (covers rule.scope e.root e.unit && counts rule.kind e.time time)
    (added-most rule.limit e.premium.0 e.contracts.0 (search tests depth 8) (search tests depth 8))
  where
    go : (flag counting : Bool) {n : ℕ} → n ≤ most_share → cond flag (cond counting n 0) 0 ≤ most_share
    go true true h = h
    go true false h = omega arith
    go false counting h = omega arith

-- what entries in range count for a rule
pub counted-most : (roots : ℕ) (rule : Rule) (time : ℕ) (log : List Entry) → every (is_entry roots) log ≡ true
    → sum_of (entry_share rule time) log ≤ length log * most_share
counted-most roots rule time log h = sum-most (is_entry roots) (entry_share rule time) most_share (share-most roots rule time) log h
