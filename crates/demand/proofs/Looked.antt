-- What an offer looks at: of each rule that covers it the account for its unit, which counts what the deeds have for the rule on that unit. So
-- the grant and the trips are those that the deeds tell. Assumes nothing.
use Prim.Native.Nat.{ℕ, ◌≤◌, ◌<◌, min}
use mathlib.Core.Path.{◌≡◌, refl, sym, ap, ap₂, ◌∙◌}
use mathlib.Core.Bool.{Bool, true, false, cond, ◌&&◌, and_assoc}
use mathlib.Core.List.{List, [], ◌∷◌, map, map-map}
use Rattle.laws.specs.Folds.{keep, any_of}
use Rattle.measures.specs.Ranges.{In, units, totals}
use Rattle.rules.specs.Rules.{level_of, held, ceiling}
use Rattle.rules.specs.Units.{of_unit}
use Rattle.rules.specs.Allowance.{All, allowance, trips, overruns, least_of}
use Rattle.rules.specs.declared.Level.{Level}
use Rattle.rules.specs.declared.Limit.{Limit}
use Rattle.rules.specs.declared.Rule.{Rule}
use Rattle.rules.specs.declared.Account.{Account}
use Rattle.rules.proofs.Units.{unit-level}
use Rattle.rules.proofs.Held.{held-allowance, held-trips, held-overruns}
use Rattle.machine.specs.State.{Profile, State, account_rule}
use Rattle.machine.specs.declared.Offer.{Offer}
use Rattle.machine.specs.Deeds.{Source, granted, reported, Deed, filling}
use Rattle.machine.specs.Offers.{counted, covers_offer, limit_with_count, covering, grant_of, same_level, trips_by, level_trips}
use Rattle.machine.proofs.Grants as machine
use Rattle.machine.proofs.Cells.{cells-covering}
use Rattle.demand.specs.Locked.{counted_in, trips_on, rule_trips}
use Rattle.demand.specs.Answers.{grant_in}
use Rattle.demand.specs.Words.{limits_in}
use Rattle.demand.proofs.Lists.{any-ext, any-kept}
use Rattle.demand.proofs.Invariant.{Right, Inv}

-- the grant that the deeds tell is the least of what the limits allow
module _ (deeds : List Deed) (o : Offer) where
  abbrev pub allowed : Limit × ℕ → ℕ
  allowed l = allowance l.0 l.1 o.premium o.contracts

  pub least-of : (rules : List Rule) → grant_in deeds o rules ≡ least_of o.contracts (map allowed (limits_in rules deeds o))
  unfolding grant_in least_of keep
  least-of [] = refl
  least-of (rule ∷ rest) = go (covers_offer o rule) (keep (covers_offer o) rest) (least-of rest)
    where
      limit : Rule → Limit × ℕ
      limit r = (r.limit, counted_in (of_unit r o.unit) deeds o.time)

      go : (b : Bool) (more : List Rule) {n : ℕ} → n ≡ least_of o.contracts (map allowed (map limit more))
          → cond b (min (allowed (limit rule)) n) n ≡ least_of o.contracts (map allowed (map limit (cond b (rule ∷ more) more)))
      go true more e = ap (min (allowed (limit rule))) e
      go false more e = e

-- that a total is held changes no trip
trips-held : (source : Source) (o : Offer) (n : ℕ) (rule : Rule) → ceiling rule.limit < totals.most → (c : ℕ)
    → trips_by source o n rule (held rule.kind c) ≡ trips_by source o n rule c
unfolding trips_by
trips-held granted o n rule low c = held-trips rule low c o.premium o.contracts n
trips-held (reported identity) o n rule low c = held-overruns rule low c o.premium n

-- nor whether it is looked at as the rule or as the rule for a unit, which has the same kind and limit
trips-unit : (source : Source) (o : Offer) (n : ℕ) (rule : Rule) (unit c : ℕ) → trips_by source o n (of_unit rule unit) c ≡ trips_by source o n rule c
unfolding trips_by trips overruns of_unit
trips-unit granted o n rule unit c = refl
trips-unit (reported identity) o n rule unit c = refl

module _ (p : Profile) (s : State) (h : List Deed) (i : Inv p s h) (o : Offer) (known : In units o.unit) where
  abbrev accounts : List Account
  accounts = s.part.accounts

  abbrev its : Rule → Rule
  its rule = of_unit rule o.unit

  module _ {B : Type 0} (f : Account → B) (g : Rule → B) (same : (a : Account) → Right s h a → f a ≡ g a.rule) where
    each : (some : List Account) → All (Right s h) some
        → map f (keep (λ (a : Account). covers_offer o a.rule) some) ≡ map g (keep (covers_offer o) (map account_rule some))
    unfolding keep
    each [] right = refl
    each (a ∷ rest) right = go (covers_offer o a.rule) (keep (λ (a : Account). covers_offer o a.rule) rest) (keep (covers_offer o) (map account_rule rest)) (each rest right.1)
      where
        go : (b : Bool) (kept : List Account) (rules : List Rule) → map f kept ≡ map g rules
            → map f (cond b (a ∷ kept) kept) ≡ map g (cond b (a.rule ∷ rules) rules)
        go true kept rules e = ap₂ ◌∷◌ (same a right.0) e
        go false kept rules e = e

    -- what the accounts tell that an offer looks at is what the rules tell that cover it, each on the offer's unit
    pub looked-at : map f (keep (λ (a : Account). covers_offer o a.rule) accounts) ≡ map (λ (rule : Rule). g (its rule)) (keep (covers_offer o) p.rules)
    looked-at =
        each accounts i.right
        ∙ (ap (λ (cells : List Rule). map g (keep (covers_offer o) cells)) i.same
        ∙ (ap (map g) (cells-covering o known p.rules) ∙ map-map g its (keep (covers_offer o) p.rules)))

  -- the grant is the one that the deeds tell
  pub grant-same : s.part.clock ≤ o.time → grant_of s.log o accounts ≡ grant_in h o p.rules
  unfolding covering of_unit
  grant-same le =
      machine.least-of s.log o accounts
      ∙ (ap (least_of o.contracts) (map-map (allowed h o) (limit_with_count s.log o) (keep (λ (a : Account). covers_offer o a.rule) accounts)
      ∙ (looked-at _ (λ (cell : Rule). allowed h o (cell.limit, counted_in cell h o.time)) same
      ∙ sym (map-map (allowed h o) (λ (rule : Rule). (rule.limit, counted_in (its rule) h o.time)) (keep (covers_offer o) p.rules))))
      ∙ sym (least-of h o p.rules))
    where
      same : (a : Account) → Right s h a → allowed h o (limit_with_count s.log o a) ≡ allowed h o (a.rule.limit, counted_in a.rule h o.time)
      same a right =
          ap (λ (n : ℕ). allowed h o (a.rule.limit, n)) (right.counts o.time le)
          ∙ held-allowance a.rule right.low (counted_in a.rule h o.time) o.premium o.contracts

  -- and so are the trips
  pub trips-same : (source : Source) (n : ℕ) (level : Level) → s.part.clock ≤ o.time
      → level_trips source s.log o n accounts level ≡ rule_trips p.rules level (filling source o n) h
  unfolding level_trips rule_trips trips_on of_unit
  trips-same source n level le =
      any-ext (λ (a : Account). and_assoc (of a.rule) (covers_offer o a.rule) (tripping a.rule (counted s.log o.time a))) accounts
      ∙ (any-kept (λ (a : Account). of a.rule) (λ (a : Account). covers_offer o a.rule) (λ (a : Account). tripping a.rule (counted s.log o.time a)) accounts
      ∙ (ap (any_of (λ (b : Bool). b)) (looked-at _ (λ (cell : Rule). of cell && tripping cell (counted_in cell h o.time)) (λ a right. ap (λ (b : Bool). of a.rule && b) (same a right)))
      ∙ (sym (any-kept (λ (rule : Rule). of (its rule)) (covers_offer o) (λ (rule : Rule). tripping (its rule) (counted_in (its rule) h o.time)) p.rules)
      ∙ any-ext (λ (rule : Rule). ap₂ (λ (l : Level) (b : Bool). same_level l level && (covers_offer o rule && b)) (unit-level rule.scope o.unit) (trips-unit source o n rule o.unit (counted_in (its rule) h o.time))) p.rules)))
    where
      of : Rule → Bool
      of rule = same_level (level_of rule.scope) level

      tripping : Rule → ℕ → Bool
      tripping rule m = trips_by source o n rule m

      same : (a : Account) → Right s h a → tripping a.rule (counted s.log o.time a) ≡ tripping a.rule (counted_in a.rule h o.time)
      same a right =
          ap (tripping a.rule) (right.counts o.time le)
          ∙ trips-held source o n a.rule right.low (counted_in a.rule h o.time)
